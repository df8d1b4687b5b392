-- New monitors show as many rows as there are actors.
use Rattle.std.proofs.Common.{◌≡◌, ℕ, List, All}
use Rattle.std.proofs.lemmas.List.Elements.{All-weaker}
use Rattle.logbook.specs.Pages.{Book}
use Rattle.live_board.specs.declared.left_glass.LeftGlass.{LeftGlass}
use Rattle.live_board.specs.declared.monitor.Monitor.{Monitor}
use Rattle.live_board.specs.Glasses.{IsNewGlass, left_rows}
use Rattle.live_board.specs.Monitors.{glass_of}

pub new_rows : (b : Book) (n : ℕ) (list : List (Monitor LeftGlass)) → All (λ (m : Monitor LeftGlass). IsNewGlass b n (glass_of m)) list → All (λ (m : Monitor LeftGlass). left_rows (glass_of m) ≡ n) list
new_rows b n list new = All-weaker (λ (m : Monitor LeftGlass). IsNewGlass b n (glass_of m)) (λ (m : Monitor LeftGlass). left_rows (glass_of m) ≡ n) (λ m is. is.row_count) list new

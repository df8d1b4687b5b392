use Rattle.std.proofs.Common.{◌≡◌, ◌+◌, drop}
use Rattle.log_audit.specs.Search.{links_wrong, section_wrong}
use Rattle.log_audit.proofs.wrong.section_wrong.Given as goal

abbrev pub invariant-loop-place : goal.invariant-loop-place
invariant-loop-place l = links_wrong l.fn.actor l.fn.line l.own l.first (l.place + 1) (drop l.place l.feeds) ≡ section_wrong l.feeds l.fn.actor l.fn.line l.own

-- The quoted text in front of some bytes.
use Rattle.std.specs.Prelude.{ℕ, zero, suc, ◌==◌, List, [], ◌∷◌, drop, slice_index, Option, None, Some, if◌then◌else◌}
use Rattle.std.specs.Str.{is_utf8}
use Rattle.join_base.specs.Unquoted.{form_at}
use Rattle.log_lines.specs.Gives.{◌>>=◌, where_true}

-- at most so many bytes whose forms stand in front of a `"`, and what follows it
unfoldable pub forms_at : ℕ → List ℕ → Option (List ℕ × List ℕ)
forms_at zero text = if slice_index text 0 == 34 then Some ([], drop 1 text) else None
forms_at (suc max) text =
    if slice_index text 0 == 34 then Some ([], drop 1 text)
    else (form_at text >>= λ form. forms_at max (drop form.1 text) >>= λ p. Some (form.0 ∷ p.0, p.1))

-- the text of at most max bytes whose quoted form stands in front, and what follows it
unfoldable pub quoted_at : ℕ → List ℕ → Option (List ℕ × List ℕ)
quoted_at max text =
    if slice_index text 0 == 34 then (forms_at max (drop 1 text) >>= λ p. where_true (is_utf8 p.0) (Some p))
    else None

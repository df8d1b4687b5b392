-- How often a number may be tried at paths: at the free patterns of its kind that could take it before the path's greatest number came.
use Rattle.std.specs.Prelude.{ℕ, List, [], ◌∷◌, map, length, max, Bool, not, ◌&&◌, ◌||◌, Option, Some, None, slice_index, if◌then◌else◌}
use Rattle.std.specs.List.{filter, list_any, sum_by}
use Rattle.guard_eval.specs.Meaning.{Assignment, recorded_message, is_slot_filled}
use Rattle.pattern_core.specs.Matches.{is_of_kind, is_agreeable, slot_is}
use Rattle.tree_rows.specs.Routes.{Route, with_number, filled}
use Rattle.row_screens.specs.Offers.{Offered, places, is_free}

abbrev pub greatest : Assignment → ℕ
greatest [] = 0
greatest (None ∷ slots) = greatest slots
greatest (Some n ∷ slots) = max n (greatest slots)

abbrev pub emptied_at : ℕ → Option ℕ → Option ℕ
emptied_at number slot = if slot_is number slot then None else slot

-- the assignment without its greatest number
abbrev pub without_greatest : Assignment → Assignment
without_greatest slots = map (emptied_at (greatest slots)) slots

-- the pattern is free and of the number's kind, and the path is empty or could take the number there before its greatest one
abbrev pub is_tried : Offered → Assignment → ℕ → Bool
is_tried o slots pattern =
    is_free slots pattern
    && (is_of_kind (recorded_message o.messages o.number) (slice_index o.definition.patterns pattern)
    && (not (list_any is_slot_filled slots) || is_agreeable o.messages o.definition.conjuncts (with_number (without_greatest slots) pattern o.number)))

abbrev pub tried : Offered → Assignment → List ℕ
tried o slots = filter (is_tried o slots) (places 0 o.definition.patterns)

-- the tries at these paths
abbrev pub tries : Offered → List Assignment → ℕ
tries o paths = sum_by (λ path. length (tried o path)) paths

-- the tries behind a path
abbrev pub tries_behind : Offered → Assignment → List Route → ℕ
tries_behind o slots routes = sum_by (λ route. length (tried o (filled slots route))) routes

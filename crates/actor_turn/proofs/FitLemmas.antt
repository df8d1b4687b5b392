-- Values against types: values that are not as many do not fit, and one at its place is tested before those behind it.
use Rattle.std.proofs.Common.{◌≡◌, ◌≢◌, ◌∙◌, ◌+◌, ◌<◌, ℕ, suc, List, [], ◌∷◌, Some, drop, get_or, length, slice_get, Bool, true, false, refl, ap}
use Rattle.std.proofs.lemmas.List.{drop_more}
use Rattle.std.proofs.lemmas.Option.{get_or_from_slice_get}
use Rattle.std.specs.Prelude.{◌&&◌}
use Rattle.join_base.specs.declared.message.Sort.{Sort}
use Rattle.join_base.specs.declared.message.Value.{Value}
use Rattle.guard_eval.specs.Meaning.{is_of_sort}
use Rattle.fair_semantics.specs.Step.{are_of_sorts}

and_false : (a : Bool) → false ≡ (a && false)
and_false true = refl
and_false false = refl

pub unlike_count : (sorts : List Sort) (values : List Value) → length sorts ≢ length values → false ≡ are_of_sorts sorts values
unlike_count [] [] d = absurd (d refl)
unlike_count [] (v ∷ values) d = refl
unlike_count (s ∷ sorts) [] d = refl
unlike_count (s ∷ sorts) (v ∷ values) d =
    let rest = unlike_count sorts values (λ e. d (ap suc e)) in
    and_false (is_of_sort s v) ∙ ap (λ (b : Bool). is_of_sort s v && b) rest

pub sorts_at : (sorts : List Sort) (values : List Value) (i : ℕ) (d : Sort) (value : Value) → i < length sorts → i < length values → slice_get values i ≡ Some value → are_of_sorts (drop i sorts) (drop i values) ≡ (is_of_sort (get_or sorts i d) value && are_of_sorts (drop (i + 1) sorts) (drop (i + 1) values))
sorts_at sorts values i d value few many found =
    let own : List Sort = get_or sorts i d ∷ drop (i + 1) sorts in
    ap (λ (ss : List Sort). are_of_sorts ss (drop i values)) (drop_more sorts i d few)
    ∙ ap (λ (vs : List Value). are_of_sorts own vs) (drop_more values i value many)
    ∙ ap (λ (v : Value). are_of_sorts own (v ∷ drop (i + 1) values)) (get_or_from_slice_get values i value value found)

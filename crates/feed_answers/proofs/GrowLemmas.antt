-- An answer stays as more arrives, and stamps are no matter to it.
use Rattle.std.proofs.Common.{◌≡◌, ◌∙◌, ℕ, zero, suc, List, [], ◌∷◌, ◌++◌, Option, None, Some, map, slice_get, refl, ap}
use Rattle.std.specs.List.{cons_option, filter_map}
use Rattle.std.specs.Option.{option_and_then}
use Rattle.std.proofs.lemmas.Grind.{flat_map-append}
use Rattle.std.proofs.lemmas.List.Elements.{filter_map-append}
use Rattle.join_base.specs.declared.message.Value.{Value}
use Rattle.join_base.specs.declared.message.Source.{Source}
use Rattle.join_base.specs.declared.message.Source.TheVariants.{Feed}
use Rattle.fair_semantics.specs.declared.run.Effect.{Effect}
use Rattle.fair_semantics.specs.declared.run.Entry.{Entry}
use Rattle.fair_semantics.specs.Linked.{firing_effects, unstamped_entry}
use Rattle.feed_answers.specs.Answers.{arrivals_from, effects_in, from_one, number_from, reply_at, reply_in, reply_to}
use Rattle.feed_answers.specs.Grow.{AnswersStay, StampsAreNoMatter}

get_front : {X : Type 0} (xs ys : List X) (k : ℕ) (x : X) → slice_get xs k ≡ Some x → slice_get (xs ++ ys) k ≡ Some x
get_front [] ys k x e = absurd cc
get_front (z ∷ xs) ys zero x e = e
get_front (z ∷ xs) ys (suc k) x e = get_front xs ys k x e

one_front : {X : Type 0} (xs ys : List X) (place : ℕ) (x : X) → from_one xs place ≡ Some x → from_one (xs ++ ys) place ≡ Some x
one_front xs ys zero x e = absurd cc
one_front xs ys (suc place) x e = get_front xs ys place x e

reply_stays : (entries more : List Entry) (number : ℕ) (value : Value) → reply_in entries number ≡ Some value → reply_in (entries ++ more) number ≡ Some value
reply_stays entries more number value e =
    ap (λ (effects : List Effect). slice_get (filter_map (reply_to number) effects) 0) (flat_map-append (λ (entry : Entry). firing_effects entry.firing) entries more)
    ∙ ap (λ (values : List Value). slice_get values 0) (filter_map-append (reply_to number) (effects_in entries) (effects_in more))
    ∙ get_front (filter_map (reply_to number) (effects_in entries)) (filter_map (reply_to number) (effects_in more)) 0 value e

pub answers_stay : AnswersStay
answers_stay entries more feed place value e = by (from_one (arrivals_from (Feed feed) entries) place) refl
  where
    by : (o : Option ℕ) → from_one (arrivals_from (Feed feed) entries) place ≡ o → reply_at (entries ++ more) feed place ≡ Some value
    by None at = let none : None ≡ Some value = rw at at e in absurd cc
    by (Some number) at =
        let own : reply_in entries number ≡ Some value = rw at at e in
        let there : from_one (arrivals_from (Feed feed) (entries ++ more)) place ≡ Some number =
        ap (λ (numbers : List ℕ). from_one numbers place) (filter_map-append (number_from (Feed feed)) entries more)
        ∙ one_front (arrivals_from (Feed feed) entries) (arrivals_from (Feed feed) more) place number at in
        ap (option_and_then (reply_in (entries ++ more))) there ∙ reply_stays entries more number value own

arrivals_bare : (source : Source) (entries : List Entry) → arrivals_from source (map unstamped_entry entries) ≡ arrivals_from source entries
arrivals_bare source [] = refl
arrivals_bare source (entry ∷ entries) = ap (cons_option (number_from source entry)) (arrivals_bare source entries)

effects_bare : (entries : List Entry) → effects_in (map unstamped_entry entries) ≡ effects_in entries
effects_bare [] = refl
effects_bare (entry ∷ entries) = ap (λ (effects : List Effect). firing_effects entry.firing ++ effects) (effects_bare entries)

pub stamps_no_matter : StampsAreNoMatter
stamps_no_matter entries feed place =
    ap (λ (numbers : List ℕ). option_and_then (reply_in (map unstamped_entry entries)) (from_one numbers place)) (arrivals_bare (Feed feed) entries)
    ∙ ap (λ (effects : List Effect). option_and_then (λ (number : ℕ). slice_get (filter_map (reply_to number) effects) 0) (from_one (arrivals_from (Feed feed) entries) place)) (effects_bare entries)

-- A conjunct that says that two texts are equal, as a test of one number.
use Rattle.std.proofs.Common.{◌≡◌, ◌∙◌, ℕ, Bool, true, false, ◌||◌, inl, inr, List, Some, refl, sym, ap}
use Rattle.std.specs.Str.{bytes_eq}
use Rattle.std.proofs.lemmas.Bool.Decides.{Decides-like, same_from_decides}
use Rattle.std.proofs.lemmas.Slice.Eq.{bytes_eq-Decides}
use Rattle.join_base.specs.declared.message.Message.{Message}
use Rattle.guard_eval.specs.declared.term.Place.{Place}
use Rattle.guard_eval.specs.Condition.{Condition}
use Rattle.guard_eval.specs.Meaning.{Assignment, field_of, is_true, message_of_slot, number_at, words_of}
use Rattle.guard_bound.specs.declared.same.Same.{Same}
use Rattle.guard_bound.specs.Bound.{IsPair}
use Rattle.guard_bound.specs.Same.{SaysSame, are_same, is_same, words_at}

or_false : (b : Bool) → (b || false) ≡ b
or_false true = refl
or_false false = refl

bytes_turn : (xs ys : List ℕ) → bytes_eq xs ys ≡ bytes_eq ys xs
bytes_turn xs ys = same_from_decides (bytes_eq xs ys) (bytes_eq ys xs) (bytes_eq-Decides xs ys) (Decides-like (bytes_eq ys xs) (λ e. sym e) (λ e. sym e) (bytes_eq-Decides ys xs))

equal_words : (messages : List Message) (whole : Assignment) (a b : Place) (m n : ℕ) → number_at whole a.pattern ≡ Some m → number_at whole b.pattern ≡ Some n → is_true messages whole (are_same a b) ≡ bytes_eq (words_at messages m a.field) (words_at messages n b.field)
equal_words messages whole a b m n ea eb =
    (λ i. bytes_eq (words_of (field_of (message_of_slot messages (ea i)) a.field)) (words_of (field_of (message_of_slot messages (eb i)) b.field)) || false) ∙ or_false (bytes_eq (words_at messages m a.field) (words_at messages n b.field))

pub same_said : (messages : List Message) (known pattern wanted number : ℕ) (whole : Assignment) (conjunct : Condition) (same : Same) → SaysSame pattern wanted conjunct same → IsPair known pattern wanted number whole → is_true messages whole conjunct ≡ is_same messages known (Some same) number
same_said messages known pattern wanted number whole conjunct same says pair =
    let here : number_at whole says.here.pattern ≡ Some number = ap (number_at whole) says.of_pattern ∙ pair.here in
    let there : number_at whole says.there.pattern ≡ Some known = ap (number_at whole) says.of_wanted ∙ pair.there in
    let fields : bytes_eq (words_at messages number says.here.field) (words_at messages known says.there.field) ≡ is_same messages known (Some same) number = sym (λ i. bytes_eq (words_at messages number (says.field i)) (words_at messages known (says.other i))) in
    elim says.said [
      | inl e ↦ ap (is_true messages whole) e ∙ equal_words messages whole says.here says.there number known here there ∙ fields
      | inr e ↦ ap (is_true messages whole) e ∙ equal_words messages whole says.there says.here known number there here ∙ bytes_turn (words_at messages known says.there.field) (words_at messages number says.here.field) ∙ fields
    ]

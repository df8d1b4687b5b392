-- What messages that fit give fits: their numbers, the texts of items, and the values of operands.
use Rattle.std.proofs.Common.{◌≡◌, ℕ, ℤ, pos, negsuc, neg_ℤ, ◌≤ℤ◌, Bool, true, false, zero, suc, ◌-◌, ◌*◌, ◌^◌, ◌<◌, ◌≤◌, List, [], ◌∷◌, length, length-append, Option, Some, refl, ap, sym, subst, arith}
use mir.Syntax.{w64}
use lib.Signed.{mag}
use Rattle.std.specs.Prelude.{All, FitsSigned, if◌then◌else◌, slice_index}
use Rattle.std.specs.List.{AllByRecursion}
use Rattle.std.specs.Str.{IsAscii, IsUtf8}
use Rattle.std.specs.Fmt.{signed_decimal}
use Rattle.std.proofs.lemmas.Str.{IsUtf8-nil, IsUtf8-append, IsUtf8-from_ascii}
use Rattle.std.proofs.lemmas.Fmt.{IsAscii-decimal_wide, length-decimal-le_wide}
use Rattle.std.proofs.lemmas.Int.{ints}
use Rattle.join_base.specs.Text.{IsText}
use Rattle.join_base.specs.declared.message.Sort.{Sort}
use Rattle.join_base.specs.declared.message.Sort.TheVariants as sort
use Rattle.join_base.specs.declared.message.Value.{Value}
use Rattle.join_base.specs.declared.message.Value.TheVariants.{Int, Words}
use Rattle.join_base.specs.declared.message.Message.{Message}
use Rattle.guard_eval.specs.declared.term.Place.{Place}
use Rattle.guard_eval.specs.declared.term.Leaf.{Leaf}
use Rattle.guard_eval.specs.declared.term.Leaf.TheVariants as leaf
use Rattle.guard_eval.specs.declared.term.Signed.{Signed}
use Rattle.guard_eval.specs.declared.term.WordsLeaf.{WordsLeaf}
use Rattle.guard_eval.specs.declared.term.WordsLeaf.TheVariants as words
use Rattle.guard_eval.specs.Meaning.{Assignment, Need, int_of, is_of_sort, leaf_needs, leaf_value, term_needs, term_value, value_at, words_needs, words_of, words_value}
use Rattle.guard_eval.specs.Ready.{AreReady, IsIntReady, IsReady}
use Rattle.guard_eval.proofs.ReadyLemmas.{all_left, all_right, each_at, value_at_parts}
use Rattle.pattern_core.specs.Assigns.{Assigns}
use Rattle.pattern_core.specs.Choice.{slots_of}
use Rattle.pattern_core.specs.Suits.{IsRecorded}
use Rattle.guard_eval.specs.declared.term.Operand.{Operand}
use Rattle.guard_eval.specs.declared.term.Operand.TheVariants as operand
use Rattle.script_types.specs.declared.plan.Plan.{Plan}
use Rattle.script_types.specs.declared.plan.Item.{Item}
use Rattle.script_types.specs.declared.plan.Item.TheVariants as item
use Rattle.fair_semantics.specs.Body.{clamped, item_text, line_of, posted_value}
use Rattle.fair_semantics.specs.Fits.{ValueFits, MessageFits, ItemFits, LeafFits, OperandFits, WordsFit}
use Rattle.fair_semantics.specs.Ready.{ItemReady, OperandReady}
use Rattle.pattern_core.proofs.SuitsLemmas.{recorded_of}

-- an integer of 128 bits is printed as a short text
pub decimal_fits : (z : ℤ) → mag z < 2 ^ 127 → IsText 120 (signed_decimal z)
decimal_fits z small = record { utf8 = IsUtf8-from_ascii (signed_decimal z) (ascii z small); short = short z small }
  where
    short : (z : ℤ) → mag z < 2 ^ 127 → length (signed_decimal z) ≤ 120
    short (pos n) l = let k = length-decimal-le_wide 40 n (omega arith) (omega arith) (omega arith) in omega arith
    short (negsuc n) l = let k = length-decimal-le_wide 40 (suc n) (omega arith) (omega arith) (omega arith) in omega arith

    ascii : (z : ℤ) → mag z < 2 ^ 127 → IsAscii (signed_decimal z)
    ascii (pos n) l i = IsAscii-decimal_wide n (omega arith) i
    ascii (negsuc n) l zero = omega arith
    ascii (negsuc n) l (suc i) = IsAscii-decimal_wide (suc n) (omega arith) i

-- 64 leaves of 64 bits
small_sum : (n : ℕ) (z : ℤ) → n ≤ 64 → neg_ℤ (pos (2 ^ 63 * n)) ≤ℤ z → z ≤ℤ pos (2 ^ 63 * n) → mag z < 2 ^ 127
small_sum n (pos m) few low high = omega (arith, ints)
small_sum n (negsuc m) few low high = omega (arith, ints)

pub length-Assigns : (messages : List Message) (live kinds taken : List ℕ) → Assigns messages live kinds (slots_of taken) → length taken ≡ length kinds
length-Assigns messages live [] [] a = refl
length-Assigns messages live [] (n ∷ taken) a = absurd a
length-Assigns messages live (kind ∷ kinds) [] a = absurd a
length-Assigns messages live (kind ∷ kinds) (n ∷ taken) a = ap suc (length-Assigns messages live kinds taken a.1)

pub numbers_small : (messages : List Message) (live kinds taken : List ℕ) → All (IsRecorded messages) live → length messages < 2 ^ 32 → Assigns messages live kinds (slots_of taken) → AllByRecursion (λ n. n < 2 ^ 32) taken
numbers_small messages live [] [] r s a = tt
numbers_small messages live [] (n ∷ taken) r s a = absurd a
numbers_small messages live (kind ∷ kinds) [] r s a = absurd a
numbers_small messages live (kind ∷ kinds) (n ∷ taken) r s a = let here = recorded_of messages live n r a.0.is_live in (omega (arith, here.1), numbers_small messages live kinds taken r s a.1)

module _ (plan : Plan) (messages : List Message) (fitting : AllByRecursion (MessageFits plan) messages) where
  value_fits : (slots : Assignment) (place : Place) (type : Sort) (ready : IsReady messages slots place type) → ValueFits ready.value
  value_fits slots place type ready =
      let message = each_at (MessageFits plan) messages (ready.number - 1) ready.message ready.recorded fitting in
      each_at ValueFits ready.message.fields place.field ready.value ready.has message.values

  value_is : (slots : Assignment) (place : Place) (type : Sort) (ready : IsReady messages slots place type) → value_at messages slots place ≡ Some ready.value
  value_is slots place type ready = value_at_parts messages slots place ready.number ready.message ready.value ready.filled ready.above_zero ready.recorded ready.has

  int_of_fits : (v : Value) → ValueFits v → is_of_sort sort.Int v ≡ true → FitsSigned w64 (int_of (Some v))
  int_of_fits (Int n) fit typed = fit
  int_of_fits (Words bytes) fit typed = absurd cc

  words_of_fit : (v : Value) → ValueFits v → is_of_sort sort.Words v ≡ true → IsText 120 (words_of (Some v))
  words_of_fit (Words bytes) fit typed = fit
  words_of_fit (Int n) fit typed = absurd cc

  int_fits : (slots : Assignment) (place : Place) → IsIntReady messages slots place → FitsSigned w64 (int_of (value_at messages slots place))
  int_fits slots place ready =
      subst (λ (o : Option Value). FitsSigned w64 (int_of o)) (sym (value_is slots place sort.Int ready)) (int_of_fits ready.value (value_fits slots place sort.Int ready) ready.of_type)

  words_fit : (slots : Assignment) (w : WordsLeaf) → AreReady messages slots (words_needs w) → WordsFit w → IsText 120 (words_value messages slots w)
  words_fit slots (words.Fixed bytes) ready fit = fit
  words_fit slots (words.Field place) ready fit =
      subst (λ (o : Option Value). IsText 120 (words_of o)) (sym (value_is slots place sort.Words ready.0)) (words_of_fit ready.0.value (value_fits slots place sort.Words ready.0) ready.0.of_type)

  leaf_fits : (slots : Assignment) (l : Leaf) → AreReady messages slots (leaf_needs l) → LeafFits l → FitsSigned w64 (leaf_value messages slots l)
  leaf_fits slots (leaf.Number n) ready fit = fit
  leaf_fits slots (leaf.Field place) ready fit = int_fits slots place ready.0

  signed_between : (minus : Bool) (z : ℤ) → FitsSigned w64 z → (neg_ℤ (pos (2 ^ 63)) ≤ℤ (if minus then neg_ℤ z else z)) × ((if minus then neg_ℤ z else z) ≤ℤ pos (2 ^ 63))
  signed_between true z fit = (omega (arith, ints), omega (arith, ints))
  signed_between false z fit = (omega (arith, ints), omega (arith, ints))

  sum_between : (slots : Assignment) (leaves : List Signed) → AreReady messages slots (term_needs leaves) → AllByRecursion (λ (s : Signed). LeafFits s.leaf) leaves
      → (neg_ℤ (pos (2 ^ 63 * length leaves)) ≤ℤ term_value messages slots leaves) × (term_value messages slots leaves ≤ℤ pos (2 ^ 63 * length leaves))
  sum_between slots [] ready fit = (omega (arith, ints), omega (arith, ints))
  sum_between slots (s ∷ more) ready fit =
      let IsReadyNeed : Need → Type 0 = λ n. IsReady messages slots n.0 n.1 in
      let here = signed_between s.minus (leaf_value messages slots s.leaf) (leaf_fits slots s.leaf (all_left IsReadyNeed (leaf_needs s.leaf) (term_needs more) ready) fit.0) in
      let later = sum_between slots more (all_right IsReadyNeed (leaf_needs s.leaf) (term_needs more) ready) fit.1 in
      (omega (arith, ints, here.0, later.0), omega (arith, ints, here.1, later.1))

  item_fits : (slots : Assignment) (i : Item) → ItemReady messages slots i → ItemFits i → IsText 120 (item_text messages slots i)
  item_fits slots (item.Words w) ready fit = words_fit slots w ready fit
  item_fits slots (item.Plain place) ready fit = let small = int_fits slots place ready.0 in decimal_fits (int_of (value_at messages slots place)) (omega (arith, ints))
  item_fits slots (item.Sum leaves) ready fit =
      let between = sum_between slots leaves ready fit.each in
      decimal_fits (term_value messages slots leaves) (small_sum (length leaves) (term_value messages slots leaves) fit.few between.0 between.1)

  pub line_parts : (taken : List ℕ) (items : List Item) → AllByRecursion (ItemReady messages (slots_of taken)) items → AllByRecursion ItemFits items → IsUtf8 (line_of messages (slots_of taken) items) × (length (line_of messages (slots_of taken) items) ≤ 120 * length items)
  line_parts taken [] ready fit = (IsUtf8-nil, omega arith)
  line_parts taken (i ∷ items) ready fit =
      let text = item_fits (slots_of taken) i ready.0 fit.0 in
      let rest = line_parts taken items ready.1 fit.1 in
      let short = text.short in
      let joined = length-append (item_text messages (slots_of taken) i) (line_of messages (slots_of taken) items) in
      (IsUtf8-append (item_text messages (slots_of taken) i) (line_of messages (slots_of taken) items) text.utf8 rest.0, omega (arith, rest.1))

  clamped_fits : (z : ℤ) → FitsSigned w64 (clamped z)
  clamped_fits (pos n) = omega (arith, ints)
  clamped_fits (negsuc n) = omega (arith, ints)

  pub sent_fits : (slots : Assignment) (o : Operand) → OperandReady messages slots o → OperandFits o → ValueFits (posted_value messages slots o)
  sent_fits slots (operand.Sum leaves) ready fit = clamped_fits (term_value messages slots leaves)
  sent_fits slots (operand.Words w) ready fit = words_fit slots w ready fit

  pub number_small : (taken : List ℕ) (i : ℕ) → i < length taken → AllByRecursion (λ n. n < 2 ^ 32) taken → slice_index taken i < 2 ^ 32
  number_small [] i l h = absurd (omega arith)
  number_small (n ∷ taken) zero l h = h.0
  number_small (n ∷ taken) (suc i) l h = number_small taken i (omega arith) h.1

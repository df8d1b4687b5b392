-- Each variable of a well typed term, condition or item has the type that is wanted there.
use Rattle.std.proofs.Common.{ℕ, List, [], ◌∷◌}
use Rattle.std.specs.List.{AllByRecursion}
use Rattle.guard_eval.specs.Condition.{Condition, Never, Compares, Negated, Grouped, Either}
use Rattle.guard_eval.specs.declared.term.Leaf.{Leaf}
use Rattle.guard_eval.specs.declared.term.Leaf.TheVariants as leaf
use Rattle.guard_eval.specs.declared.term.Signed.{Signed}
use Rattle.guard_eval.specs.declared.term.Operand.{Operand}
use Rattle.guard_eval.specs.declared.term.Operand.TheVariants as operand
use Rattle.guard_eval.specs.declared.term.WordsLeaf.{WordsLeaf}
use Rattle.guard_eval.specs.declared.term.WordsLeaf.TheVariants as words
use Rattle.guard_eval.specs.Meaning.{Need, leaf_needs, term_needs, words_needs, operand_needs, needs_of}
use Rattle.script_types.specs.declared.plan.Item.{Item}
use Rattle.script_types.specs.declared.plan.Item.TheVariants as item
use Rattle.script_types.specs.Typed.{HasType, IsTypedCondition, IsTypedItem, IsTypedLeaf, IsTypedOperand, IsTypedText, Sorts}
use Rattle.fair_semantics.specs.Ready.{item_needs}
use Rattle.fair_semantics.proofs.ListLemmas.{each_append}

module _ (sorts : Sorts) (kinds : List ℕ) where
  abbrev pub IsTypedNeed : Need → Type 0
  IsTypedNeed need = HasType sorts kinds need.1 need.0

  abbrev pub AreTypedNeeds : List Need → Type 0
  AreTypedNeeds needs = AllByRecursion IsTypedNeed needs

  leaf_typed : (l : Leaf) → IsTypedLeaf sorts kinds l → AreTypedNeeds (leaf_needs l)
  leaf_typed (leaf.Number n) t = tt
  leaf_typed (leaf.Field place) t = (t, tt)

  term_typed : (leaves : List Signed) → AllByRecursion (λ (signed : Signed). IsTypedLeaf sorts kinds signed.leaf) leaves → AreTypedNeeds (term_needs leaves)
  term_typed [] t = tt
  term_typed (signed ∷ more) t = each_append IsTypedNeed (leaf_needs signed.leaf) (term_needs more) (leaf_typed signed.leaf t.0) (term_typed more t.1)

  words_typed : (w : WordsLeaf) → IsTypedText sorts kinds w → AreTypedNeeds (words_needs w)
  words_typed (words.Fixed bytes) t = tt
  words_typed (words.Field place) t = (t, tt)

  pub operand_typed : (o : Operand) → IsTypedOperand sorts kinds o → AreTypedNeeds (operand_needs o)
  operand_typed (operand.Sum leaves) t = term_typed leaves t.each
  operand_typed (operand.Words w) t = words_typed w t

  pub condition_typed : (c : Condition) → IsTypedCondition sorts kinds c → AreTypedNeeds (needs_of c)
  condition_typed Never t = tt
  condition_typed (Compares left relation right) t =
      each_append IsTypedNeed (operand_needs left) (operand_needs right) (operand_typed left t.left_typed) (operand_typed right t.right_typed)
  condition_typed (Negated inner) t = condition_typed inner t
  condition_typed (Grouped inner) t = condition_typed inner t
  condition_typed (Either atom rest) t = each_append IsTypedNeed (needs_of atom) (needs_of rest) (condition_typed atom t.0) (condition_typed rest t.1)

  pub item_typed : (i : Item) → IsTypedItem sorts kinds i → AreTypedNeeds (item_needs i)
  item_typed (item.Words w) t = words_typed w t
  item_typed (item.Plain place) t = (t, tt)
  item_typed (item.Sum leaves) t = term_typed leaves t.each

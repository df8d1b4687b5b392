-- What holds of all that is read holds of each part, as a loop reads it.
use Rattle.std.proofs.Common.{inl, inr, ◌≡◌, ◌<◌, ◌≤◌, ◌-◌, ℕ, suc, Bool, true, false, cond, List, [], ◌∷◌, length, Option, Ok, Err, refl, subst, arith}
use Rattle.std.specs.List.{AllByRecursion}
use Rattle.script_tokens.specs.declared.token.Token.{Token}
use Rattle.script_tokens.specs.declared.token.Kind.{Kind}
use Rattle.script_tokens.specs.declared.token.Mark.TheVariants as m
use Rattle.script_grammar.specs.Grammar.{Declaration, actors_of, tree_of}
use Rattle.script_grammar.specs.Reading.{Outcome, and_then, head, pure, repeated, turns, ◌>>=◌}
use Rattle.script_grammar.specs.ScriptReading.{Reads, actor_read, begins_declaration, declaration_read, definition_read, finish_of, has_actor, is_mark, mark_read, name_read, next_is, script_read}
use Rattle.script_grammar.specs.declared.tree.Spelt.{Spelt}
use Rattle.script_grammar.specs.declared.tree.ActorDecl.{ActorDecl}
use Rattle.script_grammar.specs.declared.tree.RuleDecl.{RuleDecl}
use Rattle.script_plan.specs.Planned.{AllSmall, IsSmallDeclaration, ReadsSome}
use Rattle.script_plan.specs.Small.{IsSmallActor, IsSmallRule}

-- ---- the turns of a loop

module _ {X : Type 0} (P : X → Type 0) where
  one_read : (x : X) (read : Outcome Token (List X)) → ReadsSome (AllByRecursion P) (and_then read (λ xs. pure (x ∷ xs))) → P x × ReadsSome (AllByRecursion P) read
  one_read x (Ok p) each = each
  one_read x (Err rest) each = absurd each

  module _ (begins : Option Token → Bool) (reader : Reads X) where
    turn_reads : (n : ℕ) (rest : List Token) (read : Outcome Token X) → begins (head rest) ≡ true → reader rest ≡ read → ReadsSome (AllByRecursion P) (turns begins reader (suc n) rest)
        → ReadsSome (AllByRecursion P) (and_then read (λ x. turns begins reader n >>= λ xs. pure (x ∷ xs)))
    unfolding turns
    turn_reads n rest read is was each = rw (is, was) at each

    first_read : (n : ℕ) (read : Outcome Token X) → ReadsSome (AllByRecursion P) (and_then read (λ x. turns begins reader n >>= λ xs. pure (x ∷ xs))) → ReadsSome P read
    first_read n (Ok p) each = (one_read p.0 (turns begins reader n p.1) each).0
    first_read n (Err rest) each = absurd each

-- P holds of each of what is still read, in enough turns
pub record Holds {X : Type 0} (P : X → Type 0) (test : Kind → Bool) (reader : Reads X) (rest : List Token) : Type 0 where
  pub count : ℕ
  pub enough : length rest ≤ count
  pub each : ReadsSome (AllByRecursion P) (turns (next_is test) reader count rest)

pub some_begins : (test : Kind → Bool) (rest : List Token) → next_is test (head rest) ≡ true → 0 < length rest
some_begins test [] is = absurd cc
some_begins test (t ∷ ts) is = omega arith

module _ {X : Type 0} {P : X → Type 0} {test : Kind → Bool} {reader : Reads X} where
  pub all_hold : {tokens : List Token} → ReadsSome (AllByRecursion P) (repeated (next_is test) reader tokens) → Holds P test reader tokens
  unfolding repeated
  all_hold {tokens} each = record { count = length tokens; enough = omega arith; each = each }

  module _ {rest : List Token} (is : next_is test (head rest) ≡ true) (holds : Holds P test reader rest) where
    one_turn : ReadsSome (AllByRecursion P) (turns (next_is test) reader (suc (holds.count - 1)) rest)
    one_turn =
        let some : 0 < length rest = some_begins test rest is in
        let more : holds.count ≡ suc (holds.count - 1) = omega (arith, some, holds.enough) in
        subst (λ (n : ℕ). ReadsSome (AllByRecursion P) (turns (next_is test) reader n rest)) more holds.each

    pub first_holds : ReadsSome P (reader rest)
    first_holds = first_read P (next_is test) reader (holds.count - 1) (reader rest) (turn_reads P (next_is test) reader (holds.count - 1) rest (reader rest) is refl one_turn)

    pub others_hold : (x : X) (after : List Token) → reader rest ≡ Ok (x, after) → length after < length rest → Holds P test reader after
    others_hold x after read shorter = record {
      count = holds.count - 1;
      enough = omega (arith, holds.enough, shorter);
      each = (one_read P x (turns (next_is test) reader (holds.count - 1) after) (turn_reads P (next_is test) reader (holds.count - 1) rest (Ok (x, after)) is read one_turn)).1;
    }

-- ---- from a script to its declarations, from an actor to its definitions

declarations_small : (ds : List Declaration) → AllByRecursion IsSmallActor (actors_of ds) → AllByRecursion IsSmallDeclaration ds
declarations_small [] each = tt
declarations_small (inl message ∷ ds) each = (tt, declarations_small ds each)
declarations_small (inr actor ∷ ds) each = (each.0, declarations_small ds each.1)

small_by : (read : Outcome Token (List Declaration)) → AllSmall (finish_of read) → ReadsSome (AllByRecursion IsSmallDeclaration) read
small_by (Err rest) small = absurd small
small_by (Ok (ds, t ∷ ts)) small = absurd small
small_by (Ok (ds, [])) small = by-test (has_actor (tree_of ds)) small
  where
    by-test : (b : Bool) → AllSmall (cond b (Ok (tree_of ds)) (Err [])) → AllByRecursion IsSmallDeclaration ds
    by-test true some = declarations_small ds some.each
    by-test false some = absurd some

pub small_declarations : (tokens : List Token) → AllSmall (script_read tokens) → ReadsSome (AllByRecursion IsSmallDeclaration) (repeated (next_is begins_declaration) declaration_read tokens)
unfolding script_read
small_declarations tokens small = small_by (repeated (next_is begins_declaration) declaration_read tokens) small

actor_by : (read : Outcome Token ActorDecl) → ReadsSome IsSmallDeclaration (and_then read (λ a. pure (inr a))) → ReadsSome IsSmallActor read
actor_by (Ok p) small = small
actor_by (Err rest) small = absurd small

pub small_actor : (rest : List Token) → is_mark m.Message (head rest) ≡ false → ReadsSome IsSmallDeclaration (declaration_read rest) → ReadsSome IsSmallActor (actor_read rest)
unfolding declaration_read
small_actor rest is small = actor_by (actor_read rest) (rw is at small)

abbrev actor_with : Spelt × List RuleDecl → ActorDecl
actor_with p = record { name = p.0; rules = p.1 }

closed : (rules : List RuleDecl) (name : Spelt) (close : Outcome Token ℕ) → ReadsSome IsSmallActor (and_then (and_then {B = Spelt × List RuleDecl} (and_then close (λ _. pure rules)) (λ rs. pure (name, rs))) (λ p. pure (actor_with p)))
    → AllByRecursion IsSmallRule rules
closed rules name (Ok p) small = small
closed rules name (Err rest) small = absurd small

rules_by : (name : Spelt) (read : Outcome Token (List RuleDecl))
    → ReadsSome IsSmallActor (and_then (and_then {B = Spelt × List RuleDecl} (and_then read (λ rules. mark_read m.CloseBrace >>= λ _. pure rules)) (λ rs. pure (name, rs))) (λ p. pure (actor_with p))) → ReadsSome (AllByRecursion IsSmallRule) read
rules_by name (Ok p) small = closed p.0 name (mark_read m.CloseBrace p.1) small
rules_by name (Err rest) small = absurd small

pub small_rules : (tokens behind_word behind_name opened : List Token) (word brace : ℕ) (name : Spelt) → mark_read m.Actor tokens ≡ Ok (word, behind_word) → name_read behind_word ≡ Ok (name, behind_name)
    → mark_read m.OpenBrace behind_name ≡ Ok (brace, opened) → ReadsSome IsSmallActor (actor_read tokens) → ReadsSome (AllByRecursion IsSmallRule) (repeated (is_mark m.When) definition_read opened)
unfolding actor_read
small_rules tokens behind_word behind_name opened word brace name one two three small = rules_by name (repeated (is_mark m.When) definition_read opened) (rw (one, two, three) at small)

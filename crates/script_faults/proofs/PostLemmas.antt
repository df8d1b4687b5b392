-- The faults of a post, from those of its operands as they are read.
use Rattle.std.proofs.Common.{◌≡◌, ◌∙◌, ◌++◌, ◌+◌, ℕ, Bool, List, [], ◌∷◌, length, Bor, Option, None, Some, Ok, refl, sym, ap, append_assoc, arith}
use Rattle.std.specs.Prelude.{fold, slice_get}
use Rattle.std.specs.List.{flat_map}
use Rattle.std.specs.Option.{is_none}
use Rattle.script_tokens.specs.declared.token.Token.{Token}
use Rattle.script_tokens.specs.declared.token.Mark.TheVariants as m
use Rattle.script_grammar.specs.Operands.{operand_place}
use Rattle.script_grammar.specs.Reading.{Outcome}
use Rattle.script_grammar.specs.ScriptReading.{listed_read, mark_read, name_read, operand_read, post_read}
use Rattle.script_grammar.specs.declared.fault.ScriptCause.TheVariants.{UnknownActor}
use Rattle.script_grammar.specs.declared.operand.OperandDecl.{OperandDecl}
use Rattle.script_grammar.specs.declared.tree.FieldDecl.{FieldDecl}
use Rattle.script_grammar.specs.declared.tree.MessageDecl.{MessageDecl}
use Rattle.script_grammar.specs.declared.tree.Spelt.{Spelt}
use Rattle.script_grammar.specs.declared.tree.StatementDecl.TheVariants as statement_is
use Rattle.join_base.specs.declared.message.Sort.{Sort}
use Rattle.script_names.specs.Names.{names_of, number_of}
use Rattle.script_names.specs.Scope.{Variable, operand_sort}
use Rattle.script_faults.specs.declared.first.Fault.{Fault}
use Rattle.script_faults.specs.declared.post.Posted.{Posted}
use Rattle.script_faults.specs.declared.statement.Said.{Said}
use Rattle.script_faults.specs.First.{fault_if, first_of}
use Rattle.script_grammar.specs.Gives.{Noted}
use Rattle.script_faults.specs.Statements.{said_of, type_fault}
use Rattle.script_faults.specs.Steps.{value_after}
use Rattle.script_faults.specs.Faults.{count_faults, fields_of, fields_or_none, operand_faults, statement_faults, type_faults, wrong_type}
use Rattle.script_faults.proofs.FirstLemmas.{first_of-append, first_of-then}
use Rattle.script_faults.proofs.SameLemmas.{Same, same_cross, same_equal, same_joined, same_swap, same_then}

-- ---- one operand

wrong_is : (variables : List Variable) (field : Option FieldDecl) (o : OperandDecl) → type_fault field (operand_place o) (operand_sort variables o) ≡ wrong_type variables field o
wrong_is variables None o = refl
wrong_is variables (Some field) o = refl

pub value_noted : (s new : Posted) (p : ℕ × Sort) (field : Option FieldDecl) (middle : Option Fault) (rest : List Token) (read : Outcome Token OperandDecl)
    → Noted (λ o. (p ≡ (operand_place o, operand_sort s.variables.now o)) × (middle ≡ first_of s.found (operand_faults s.variables.now o))) rest read
    → new.variables ≡ s.variables → new.fields ≡ s.fields → new.number ≡ s.number + 1 → field ≡ slice_get s.fields.now s.number
    → new.found ≡ first_of middle (type_fault field p.0 p.1) → Noted (λ o. new ≡ value_after s o) rest read
value_noted s new p field middle rest read noted variables fields number is-field is-found =
    let o = noted.phrase in
    let right : type_fault field p.0 p.1 ≡ wrong_type s.variables.now (slice_get s.fields.now s.number) o =
    ap (λ (q : ℕ × Sort). type_fault field q.0 q.1) noted.holds.0 ∙ wrong_is s.variables.now field o ∙ ap (λ (f : Option FieldDecl). wrong_type s.variables.now f o) is-field in
    let found : new.found ≡ first_of s.found (operand_faults s.variables.now o ++ wrong_type s.variables.now (slice_get s.fields.now s.number) o) =
    first_of-then s.found middle new.found (operand_faults s.variables.now o) (wrong_type s.variables.now (slice_get s.fields.now s.number) o)
    noted.holds.1 (is-found ∙ ap (first_of middle) right) in
    record {
      phrase = o;
      reads = noted.reads;
      holds = λ i. record { variables = variables i; fields = fields i; number = number i; found = found i };
    }

-- ---- all operands

module _ (variables : List Variable) (fields : List FieldDecl) where
  abbrev valued : ℕ → List OperandDecl → List Fault
  valued number [] = []
  valued number (o ∷ os) = (operand_faults variables o ++ wrong_type variables (slice_get fields number) o) ++ valued (number + 1) os

  valued_same : (number : ℕ) (os : List OperandDecl) → Same (valued number os) (type_faults variables fields number os ++ flat_map (operand_faults variables) os)
  valued_same number [] = same_equal refl
  valued_same number (o ∷ os) =
      let own = operand_faults variables o in
      let wrong = wrong_type variables (slice_get fields number) o in
      same_then (same_joined (same_swap own wrong) (valued_same (number + 1) os))
      (same_cross wrong own (type_faults variables fields (number + 1) os) (flat_map (operand_faults variables) os))

values_found : (s : Posted) (os : List OperandDecl) → (fold value_after s os).found ≡ first_of s.found (valued s.variables.now s.fields.now s.number os)
values_found s [] = refl
values_found s (o ∷ os) =
    values_found (value_after s o) os
    ∙ sym (first_of-append s.found (operand_faults s.variables.now o ++ wrong_type s.variables.now (slice_get s.fields.now s.number) o) (valued s.variables.now s.fields.now (s.number + 1) os))

values_number : (s : Posted) (os : List OperandDecl) → (fold value_after s os).number ≡ s.number + length os
values_number s [] = omega arith
values_number s (o ∷ os) = let others = values_number (value_after s o) os in omega (arith, others)

swap_front : (a b c : List Fault) → Same ((a ++ b) ++ c) ((c ++ a) ++ b)
swap_front a b c = same_then (same_swap (a ++ b) c) (same_equal (sym (append_assoc c a b)))

pub noted_values : (variables : Bor (List Variable)) (fields : Bor (List FieldDecl)) (before found : Option Fault) (all : Option (List FieldDecl)) (kind : Spelt) (new : Posted) (rest : List Token)
    (read : Outcome Token (List OperandDecl)) → Noted (λ os. new ≡ fold value_after (record { variables = variables; fields = fields; number = 0; found = before }) os) rest read
    → fields.now ≡ fields_or_none all → found ≡ first_of new.found (count_faults all kind new.number)
    → Noted (λ os. found ≡ first_of before (count_faults all kind (length os) ++ type_faults variables.now (fields_or_none all) 0 os ++ flat_map (operand_faults variables.now) os)) rest read
noted_values variables fields before found all kind new rest read noted are-fields is-found =
    let os = noted.phrase in
    let start : Posted = record { variables = variables; fields = fields; number = 0; found = before } in
    let zero_more : 0 + length os ≡ length os = omega arith in
    let number : new.number ≡ length os = ap (λ (p : Posted). p.number) noted.holds ∙ values_number start os ∙ zero_more in
    let types = type_faults variables.now (fields_or_none all) 0 os in
    let own = flat_map (operand_faults variables.now) os in
    let values : new.found ≡ first_of before (types ++ own) =
    ap (λ (p : Posted). p.found) noted.holds ∙ values_found start os ∙ (valued_same variables.now fields.now 0 os).is before
    ∙ ap (λ (fs : List FieldDecl). first_of before (type_faults variables.now fs 0 os ++ own)) are-fields in
    record {
      phrase = os;
      reads = noted.reads;
      holds = first_of-then before new.found found (types ++ own) (count_faults all kind (length os)) values (is-found ∙ ap (λ (n : ℕ). first_of new.found (count_faults all kind n)) number)
          ∙ (swap_front types own (count_faults all kind (length os))).is before;
    }

-- ---- a post

regroup : (a b c d : List Fault) → a ++ ((b ++ c) ++ d) ≡ ((a ++ b) ++ c) ++ d
regroup a b c d = sym (append_assoc a (b ++ c) d) ∙ ap (λ (l : List Fault). l ++ d) (sym (append_assoc a b c))

pub noted_post : (messages : List MessageDecl) (actors : List (List ℕ × ℕ)) (variables : List Variable) (place open' close end : ℕ) (target kind : Spelt) (is_unknown : Bool) (said : Said)
    (tokens one two three closing ending rest : List Token) (four : List Token) (before middle found : Option Fault)
    → mark_read m.Post tokens ≡ Ok (place, one) → name_read one ≡ Ok (target, two) → is_unknown ≡ is_none (number_of target.name (names_of actors))
    → middle ≡ first_of before (fault_if is_unknown UnknownActor target.place) → name_read two ≡ Ok (kind, three) → mark_read m.Open three ≡ Ok (open', four)
    → Noted (λ os. found ≡ first_of middle (count_faults (fields_of messages kind.name) kind (length os) ++ type_faults variables (fields_or_none (fields_of messages kind.name)) 0 os
    ++ flat_map (operand_faults variables) os)) closing (listed_read m.Comma operand_read four)
    → mark_read m.Close closing ≡ Ok (close, ending) → mark_read m.Semicolon ending ≡ Ok (end, rest) → said ≡ record { place = place; stop = None; reply = None }
    → Noted (λ statement. (said ≡ said_of statement) × (found ≡ first_of before (statement_faults messages actors variables statement))) rest (post_read tokens)
unfolding post_read
noted_post messages actors variables place open' close end target kind is_unknown said tokens one two three closing ending rest four before middle found read named unknown is-middle kinded opened noted closed ended is-said =
    let os = noted.phrase in
    let a = fault_if (is_none (number_of target.name (names_of actors))) UnknownActor target.place in
    let b = count_faults (fields_of messages kind.name) kind (length os) in
    let c = type_faults variables (fields_or_none (fields_of messages kind.name)) 0 os in
    let d = flat_map (operand_faults variables) os in
    record {
      phrase = statement_is.Post place target kind os;
      reads = rw (read, named, kinded, opened, noted.reads, closed, ended) refl;
      holds = (
        is-said,
        first_of-then before middle found a ((b ++ c) ++ d) (is-middle ∙ ap (λ (u : Bool). first_of before (fault_if u UnknownActor target.place)) unknown) noted.holds
            ∙ ap (first_of before) (regroup a b c d),
      );
    }

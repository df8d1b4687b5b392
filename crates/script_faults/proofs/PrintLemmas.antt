-- The faults of a print, from those of its items as they are read.
use Rattle.std.proofs.Common.{◌≡◌, ◌∙◌, ◌++◌, ◌+◌, ℕ, true, false, List, [], ◌∷◌, Option, Ok, refl, sym, ap}
use Rattle.std.specs.Prelude.{None, fold}
use Rattle.std.proofs.Common.{Bor}
use Rattle.script_tokens.specs.declared.token.Token.{Token}
use Rattle.script_tokens.specs.declared.token.Mark.TheVariants as m
use Rattle.script_grammar.specs.Grammar.{words_of}
use Rattle.script_grammar.specs.Operands.{item_place}
use Rattle.script_grammar.specs.Reading.{Outcome, head, repeated, token}
use Rattle.script_grammar.specs.ScriptReading.{begins_item, is_name, is_words, item_read, mark_read, name_read, next_is, print_read, term_read}
use Rattle.script_grammar.specs.declared.tree.ItemDecl.{ItemDecl}
use Rattle.script_grammar.specs.declared.tree.ItemDecl.TheVariants as item_is
use Rattle.script_grammar.specs.declared.tree.MessageDecl.{MessageDecl}
use Rattle.script_grammar.specs.declared.tree.Spelt.{Spelt}
use Rattle.script_grammar.specs.declared.tree.StatementDecl.TheVariants as statement_is
use Rattle.join_base.specs.declared.message.Sort.{Sort}
use Rattle.script_names.specs.Names.{item_of}
use Rattle.script_names.specs.Scope.{Variable, name_sort, only_name}
use Rattle.script_faults.specs.declared.first.Fault.{Fault}
use Rattle.script_faults.specs.declared.print.Printed.{Printed}
use Rattle.script_faults.specs.declared.statement.Said.{Said}
use Rattle.script_faults.specs.First.{first_of}
use Rattle.script_grammar.specs.Gives.{Noted}
use Rattle.script_faults.specs.Numbered.{at_most, numbered_faults}
use Rattle.script_faults.specs.Statements.{items_read, said_of}
use Rattle.script_faults.specs.Steps.{item_after}
use Rattle.script_faults.specs.Faults.{item_faults, name_faults, print_faults, statement_faults, term_faults}
use Rattle.script_faults.proofs.FirstLemmas.{first_of-append, first_of-then}
use Rattle.script_faults.proofs.SameLemmas.{numbered_same}

-- ---- one item

module _ (variables : List Variable) (tokens : List Token) where
  pub noted_words : (place : ℕ) (words : List ℕ) (rest : List Token) (found : Option Fault) → next_is is_words (head tokens) ≡ true → token words_of tokens ≡ Ok ((place, words), rest)
      → Noted (λ item. (place ≡ item_place item) × (found ≡ first_of found (item_faults variables item))) rest (item_read tokens)
  unfolding item_read
  noted_words place words rest found is read = record { phrase = item_is.Fixed place words; reads = rw (is, read) refl; holds = (refl, refl) }

  pub noted_named : (spelt : Spelt) (rest : List Token) (before found : Option Fault) → next_is is_words (head tokens) ≡ false → next_is is_name (head tokens) ≡ true
      → name_read tokens ≡ Ok (spelt, rest) → found ≡ first_of before (name_faults true spelt.place (item_of spelt.name variables))
      → Noted (λ item. (spelt.place ≡ item_place item) × (found ≡ first_of before (item_faults variables item))) rest (item_read tokens)
  unfolding item_read
  noted_named spelt rest before found no_words is read is-found = record { phrase = item_is.Named spelt; reads = rw (no_words, is, read) refl; holds = (refl, is-found) }

  pub noted_term : (place : ℕ) (close : ℕ) (p : ℕ × Sort) (inner closing rest : List Token) (before found : Option Fault) → next_is is_words (head tokens) ≡ false
      → next_is is_name (head tokens) ≡ false → mark_read m.Open tokens ≡ Ok (place, inner)
      → Noted (λ term. (p ≡ (term.0, name_sort variables (only_name term.1))) × (found ≡ first_of before (term_faults variables false term.1))) closing (term_read inner)
      → mark_read m.Close closing ≡ Ok (close, rest)
      → Noted (λ item. (place ≡ item_place item) × (found ≡ first_of before (item_faults variables item))) rest (item_read tokens)
  unfolding item_read
  noted_term place close p inner closing rest before found no_words no_name opened noted closed = record {
    phrase = item_is.Sum place noted.phrase.1;
    reads = rw (no_words, no_name, opened, noted.reads, closed) refl;
    holds = (refl, noted.holds.1);
  }

-- ---- items

pub item_noted : (s new : Printed) (item : ItemDecl) (middle : Option Fault) → new.variables ≡ s.variables → new.number ≡ s.number + 1
    → middle ≡ first_of s.found (item_faults s.variables.now item) → new.found ≡ first_of middle (at_most 16 s.number (item_place item)) → new ≡ item_after s item
item_noted s new item middle variables number is-middle is-found =
    let found : new.found ≡ first_of s.found (item_faults s.variables.now item ++ at_most 16 s.number (item_place item)) =
    first_of-then s.found middle new.found (item_faults s.variables.now item) (at_most 16 s.number (item_place item)) is-middle is-found in
    λ i. record { variables = variables i; number = number i; found = found i }

-- the place that an item's reader gave is that of the item
pub item_noted_at : (s new : Printed) (place : ℕ) (middle : Option Fault) (rest : List Token) (read : Outcome Token ItemDecl)
    → Noted (λ item. (place ≡ item_place item) × (middle ≡ first_of s.found (item_faults s.variables.now item))) rest read
    → new.variables ≡ s.variables → new.number ≡ s.number + 1 → new.found ≡ first_of middle (at_most 16 s.number place) → Noted (λ item. new ≡ item_after s item) rest read
item_noted_at s new place middle rest read noted variables number is-found = record {
  phrase = noted.phrase;
  reads = noted.reads;
  holds = item_noted s new noted.phrase middle variables number noted.holds.1 (is-found ∙ ap (λ (p : ℕ). first_of middle (at_most 16 s.number p)) noted.holds.0);
}

items_found : (s : Printed) (items : List ItemDecl) → (fold item_after s items).found ≡ first_of s.found (numbered_faults 16 item_place (item_faults s.variables.now) s.number items)
items_found s [] = refl
items_found s (item ∷ items) =
    items_found (item_after s item) items
    ∙ sym (first_of-append s.found (item_faults s.variables.now item ++ at_most 16 s.number (item_place item)) (numbered_faults 16 item_place (item_faults s.variables.now) (s.number + 1) items))

pub noted_items : (variables : Bor (List Variable)) (found : Option Fault) (middle new : Printed) (tokens more rest : List Token)
    → Noted (λ item. middle ≡ item_after (record { variables = variables; number = 0; found = found }) item) more (item_read tokens)
    → Noted (λ items. new ≡ fold item_after middle items) rest (repeated (next_is begins_item) item_read more)
    → Noted (λ items. new.found ≡ first_of found (print_faults variables.now items)) rest (items_read tokens)
noted_items variables found middle new tokens more rest one others =
    let start : Printed = record { variables = variables; number = 0; found = found } in
    let all : List ItemDecl = one.phrase ∷ others.phrase in
    record {
      phrase = all;
      reads = rw (one.reads, others.reads) refl;
      holds = ap (λ (p : Printed). p.found) (others.holds ∙ ap (λ (p : Printed). fold item_after p others.phrase) one.holds) ∙ items_found start all
          ∙ (numbered_same 16 item_place (item_faults variables.now) all).is found;
    }

-- ---- a print

pub noted_print : (messages : List MessageDecl) (actors : List (List ℕ × ℕ)) (variables : List Variable) (place close : ℕ) (said : Said) (tokens more closing rest : List Token) (before found : Option Fault)
    → mark_read m.Print tokens ≡ Ok (place, more)
    → Noted (λ items. found ≡ first_of before (print_faults variables items)) closing (items_read more)
    → mark_read m.Semicolon closing ≡ Ok (close, rest) → said ≡ record { place = place; stop = None; reply = None }
    → Noted (λ statement. (said ≡ said_of statement) × (found ≡ first_of before (statement_faults messages actors variables statement))) rest (print_read tokens)
unfolding print_read
noted_print messages actors variables place close said tokens more closing rest before found read noted closed is-said =
    record { phrase = statement_is.Print place noted.phrase; reads = rw (read, noted.reads, closed) refl; holds = (is-said, noted.holds) }

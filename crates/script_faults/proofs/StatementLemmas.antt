-- The faults of replies and of stops.
use Rattle.std.proofs.Common.{◌≡◌, ℕ, ℤ, List, Option, Ok, refl}
use Rattle.std.specs.Prelude.{None, Some}
use Rattle.script_tokens.specs.declared.token.Token.{Token}
use Rattle.script_tokens.specs.declared.token.Mark.TheVariants as m
use Rattle.script_grammar.specs.Grammar.{numeral_of}
use Rattle.script_grammar.specs.Operands.{operand_place}
use Rattle.script_grammar.specs.Reading.{token}
use Rattle.script_grammar.specs.ScriptReading.{mark_read, operand_read, reply_read, stop_read}
use Rattle.script_grammar.specs.declared.tree.MessageDecl.{MessageDecl}
use Rattle.script_grammar.specs.declared.tree.StatementDecl.TheVariants as statement_is
use Rattle.join_base.specs.declared.message.Sort.{Sort}
use Rattle.script_names.specs.Scope.{Variable, operand_sort}
use Rattle.script_faults.specs.declared.first.Fault.{Fault}
use Rattle.script_faults.specs.declared.statement.Said.{Said}
use Rattle.script_faults.specs.First.{first_of}
use Rattle.script_grammar.specs.Gives.{Noted}
use Rattle.script_faults.specs.Statements.{said_of}
use Rattle.script_faults.specs.Faults.{operand_faults, statement_faults}

module _ (messages : List MessageDecl) (actors : List (List ℕ × ℕ)) (variables : List Variable) (tokens : List Token) where
  pub noted_reply : (place close : ℕ) (number : ℕ × ℤ) (p : ℕ × Sort) (said : Said) (first more closing rest : List Token) (before found : Option Fault)
      → mark_read m.Reply tokens ≡ Ok (place, first) → token numeral_of first ≡ Ok (number, more)
      → Noted (λ operand. (p ≡ (operand_place operand, operand_sort variables operand)) × (found ≡ first_of before (operand_faults variables operand))) closing (operand_read more)
      → mark_read m.Semicolon closing ≡ Ok (close, rest) → said ≡ record { place = place; stop = None; reply = Some number }
      → Noted (λ statement. (said ≡ said_of statement) × (found ≡ first_of before (statement_faults messages actors variables statement))) rest (reply_read tokens)
  unfolding reply_read
  noted_reply place close number p said first more closing rest before found read numbered noted closed is-said =
      record { phrase = statement_is.Reply place number.0 number.1 noted.phrase; reads = rw (read, numbered, noted.reads, closed) refl; holds = (is-said, noted.holds.1) }

  pub noted_stop : (place close : ℕ) (said : Said) (closing rest : List Token) (found : Option Fault)
      → mark_read m.Stop tokens ≡ Ok (place, closing) → mark_read m.Semicolon closing ≡ Ok (close, rest) → said ≡ record { place = place; stop = Some place; reply = None }
      → Noted (λ statement. (said ≡ said_of statement) × (found ≡ first_of found (statement_faults messages actors variables statement))) rest (stop_read tokens)
  unfolding stop_read
  noted_stop place close said closing rest found read closed is-said = record { phrase = statement_is.Stop place; reads = rw (read, closed) refl; holds = (is-said, refl) }

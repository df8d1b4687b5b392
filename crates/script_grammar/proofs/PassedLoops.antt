-- Passing over a list as a loop does.
use Rattle.std.proofs.Common.{◌≡◌, ◌<◌, Bool, true, false, List, [], ◌∷◌, ◌++◌, length, Ok, ap, subst}
use Rattle.script_tokens.specs.declared.token.Token.{Token}
use Rattle.script_tokens.specs.declared.token.Kind.{Kind}
use Rattle.script_grammar.specs.Reading.{Outcome, head, passed, repeated}
use Rattle.script_grammar.specs.Gives.{Fails}
use Rattle.script_grammar.specs.declared.stop.Stop.{Stop}
use Rattle.script_grammar.specs.declared.stop.Stop.TheVariants as stop
use Rattle.script_grammar.specs.ScriptReading.{Reads, next_is}
use Rattle.script_grammar.proofs.LoopLemmas.{IsLeft, with_front_nil, begun, goes_on, stops, ends}
use Rattle.script_grammar.proofs.PassedLemmas.{passed_some, passed_none}

-- what was passed over, and what is still passed over, are the whole
pub record IsPassing {X : Type 0} (test : Kind → Bool) (reader : Reads X) (rest : List Token) (whole : Outcome Token (List X)) : Type 0 where
  pub front : List X
  pub left : IsLeft test reader front rest whole

fails_passed : {X : Type 0} (e : Stop) (after : List Token) (read : Outcome Token X) → Fails e after read → Fails e after (passed read)
fails_passed stop.NoMemory after read fails = tt
fails_passed stop.Refused after read fails = ap passed fails

fails_read : {X : Type 0} (e : Stop) (after : List Token) (read : Outcome Token X) → Fails e after (passed read) → Fails e after read
fails_read stop.NoMemory after read fails = tt
fails_read stop.Refused after read fails = passed_none read after fails

module _ {X : Type 0} {test : Kind → Bool} {reader : Reads X} where
  pub passing_begun : {tokens : List Token} → IsPassing test reader tokens (repeated (next_is test) reader tokens)
  passing_begun {tokens} = record {
    front = [];
    left = subst (λ (whole : Outcome Token (List X)). IsLeft test reader [] tokens whole) (with_front_nil (repeated (next_is test) reader tokens)) begun;
  }

  module _ {rest : List Token} {whole : Outcome Token (List X)} where
    pub passing_goes_on : {u : Unit {0}} {after : List Token} → next_is test (head rest) ≡ true → passed (reader rest) ≡ Ok (u, after) → length after < length rest
        → IsPassing test reader rest whole → IsPassing test reader after whole
    passing_goes_on {u} {after} is read shorter so_far =
        let found = passed_some (reader rest) u after read in
        record { front = so_far.front ++ found.0 ∷ []; left = goes_on is found.1 shorter so_far.left }

    pub passing_stops : (e : Stop) (after : List Token) → next_is test (head rest) ≡ true → Fails e after (passed (reader rest)) → IsPassing test reader rest whole
        → Fails e after (passed whole)
    passing_stops e after is read so_far = fails_passed e after whole (stops e after is (fails_read e after (reader rest) read) so_far.left)

    pub passing_ends : next_is test (head rest) ≡ false → IsPassing test reader rest whole → passed whole ≡ Ok (tt, rest)
    passing_ends is so_far = ap passed (ends is so_far.left)

-- What is noted of a list while a loop reads it, turn by turn, whatever its phrases; and how one declaration is read.
use Rattle.std.proofs.Common.{inl, ◌≡◌, ◌∙◌, ◌<◌, ◌++◌, ℕ, Bool, true, false, List, [], ◌∷◌, length, Result, Ok, Err, refl, sym, ap, subst}
use Rattle.std.specs.Prelude.{fold}
use Rattle.script_tokens.specs.declared.token.Token.{Token}
use Rattle.script_tokens.specs.declared.token.Kind.{Kind}
use Rattle.script_tokens.specs.declared.token.Mark.{Mark}
use Rattle.script_tokens.specs.declared.token.Mark.TheVariants as m
use Rattle.script_grammar.specs.Reading.{Outcome, head, and_then, passed, pure, repeated}
use Rattle.script_grammar.specs.Gives.{Fails, Noted}
use Rattle.script_grammar.specs.declared.stop.Stop.{Stop}
use Rattle.script_grammar.specs.declared.stop.Stop.TheVariants as stop
use Rattle.script_grammar.specs.declared.tree.MessageDecl.{MessageDecl}
use Rattle.script_grammar.specs.ScriptReading.{Reads, actor_read, after_mark, declaration_read, further, is_mark, listed_read, mark_read, message_read, next_is, separated_read, with_front}
use Rattle.script_grammar.proofs.LoopLemmas.{IsLeft, begun, goes_on, stops, ends, with_front_nil}

pub one_ok : {A E : Type 0} (x y : A) → Path (Result A E) (Ok x) (Ok y) → x ≡ y
one_ok x y is = cc

fold_push : {X S : Type 0} (after : S → X → S) (first : S) (xs : List X) (x : X) → fold after first (xs ++ x ∷ []) ≡ after (fold after first xs) x
fold_push after first [] x = refl
fold_push after first (y ∷ ys) x = fold_push after (after first y) ys x

-- what the phrases read so far make known, and what is still read
pub record IsNoted {X S : Type 0} (after : S → X → S) (test : Kind → Bool) (reader : Reads X) (first now : S) (rest : List Token) (whole : Outcome Token (List X)) : Type 0 where
  pub front : List X
  pub left : IsLeft test reader front rest whole
  pub so_far : now ≡ fold after first front

module _ {X S : Type 0} {after : S → X → S} {test : Kind → Bool} {reader : Reads X} {first : S} where
  pub noting_begun : {tokens : List Token} → IsNoted after test reader first first tokens (repeated (next_is test) reader tokens)
  noting_begun {tokens} =
      let whole : with_front [] (repeated (next_is test) reader tokens) ≡ repeated (next_is test) reader tokens = with_front_nil (repeated (next_is test) reader tokens) in
      record { front = []; left = subst (λ (w : Outcome Token (List X)). IsLeft test reader [] tokens w) whole begun; so_far = refl }

  module _ {now : S} {rest : List Token} {whole : Outcome Token (List X)} where
    pub noting_goes_on : {next : S} {more : List Token} → next_is test (head rest) ≡ true → Noted (λ x. next ≡ after now x) more (reader rest) → length more < length rest
        → IsNoted after test reader first now rest whole → IsNoted after test reader first next more whole
    noting_goes_on {next} {more} is noted shorter so_far = record {
      front = so_far.front ++ noted.phrase ∷ [];
      left = goes_on is noted.reads shorter so_far.left;
      so_far = noted.holds ∙ ap (λ (s : S). after s noted.phrase) so_far.so_far ∙ sym (fold_push after first so_far.front noted.phrase);
    }

    pub noting_stops : (e : Stop) (more : List Token) → next_is test (head rest) ≡ true → Fails e more (reader rest) → IsNoted after test reader first now rest whole → Fails e more whole
    noting_stops e more is read so_far = stops e more is read so_far.left

    pub noting_ends : next_is test (head rest) ≡ false → IsNoted after test reader first now rest whole → Noted (λ xs. now ≡ fold after first xs) rest whole
    noting_ends is so_far = record { phrase = so_far.front; reads = ends is so_far.left; holds = so_far.so_far }

-- ---- what is read of parts

module _ {X S : Type 0} (after : S → X → S) (reader : Reads X) where
  -- a phrase behind a mark
  pub noted_behind : {first now : S} (mark : Mark) (place : ℕ) (tokens more rest : List Token) → mark_read mark tokens ≡ Ok (place, more) → Noted (λ x. now ≡ after first x) rest (reader more)
      → Noted (λ x. now ≡ after first x) rest (after_mark mark reader tokens)
  noted_behind mark place tokens more rest read noted =
      record { phrase = noted.phrase; reads = rw read noted.reads; holds = noted.holds }

  -- a first phrase and those behind it
  pub noted_separated : {first now : S} (mark : Mark) (middle : S) (tokens more rest : List Token) → Noted (λ x. middle ≡ after first x) more (reader tokens)
      → Noted (λ xs. now ≡ fold after middle xs) rest (further mark reader more) → Noted (λ xs. now ≡ fold after first xs) rest (separated_read mark reader tokens)
  noted_separated mark middle tokens more rest one others = record {
    phrase = one.phrase ∷ others.phrase;
    reads = rw (one.reads, others.reads) refl;
    holds = others.holds ∙ ap (λ (s : S). fold after s others.phrase) one.holds;
  }

  -- no phrase in front of a closing parenthesis
  pub noted_none : {first : S} (mark : Mark) (tokens : List Token) → is_mark m.Close (head tokens) ≡ true → Noted (λ xs. first ≡ fold after first xs) tokens (listed_read mark reader tokens)
  noted_none mark tokens is = record { phrase = []; reads = rw is refl; holds = refl }

  pub noted_some : {first now : S} (mark : Mark) (tokens rest : List Token) → is_mark m.Close (head tokens) ≡ false → Noted (λ xs. now ≡ fold after first xs) rest (separated_read mark reader tokens)
      → Noted (λ xs. now ≡ fold after first xs) rest (listed_read mark reader tokens)
  noted_some mark tokens rest is noted = record { phrase = noted.phrase; reads = rw is noted.reads; holds = noted.holds }

-- ---- one declaration

-- what was passed over was read
pub passed_read : {X : Type 0} (read : Outcome Token X) (u : Unit {0}) (rest : List Token) → passed read ≡ Ok (u, rest) → (x : X) × (read ≡ Ok (x, rest))
passed_read (Ok p) u rest is = let same = ap (λ (q : Unit {0} × List Token). q.1) (one_ok (tt, p.1) (u, rest) is) in (p.0, ap (λ (ts : List Token). Ok (p.0, ts)) same)
passed_read (Err e) u rest is = absurd cc

passed_fails : {X : Type 0} (read : Outcome Token X) (e : Stop) (rest : List Token) → Fails e rest (passed read) → Fails e rest read
passed_fails read stop.NoMemory rest is = tt
passed_fails (Ok p) stop.Refused rest is = absurd cc
passed_fails (Err e) stop.Refused rest is = let same : e ≡ rest = cc in ap (λ (ts : List Token). Err ts) same

pub message_declared : (message : MessageDecl) (tokens rest : List Token) → is_mark m.Message (head tokens) ≡ true → message_read tokens ≡ Ok (message, rest)
    → declaration_read tokens ≡ Ok (inl message, rest)
unfolding declaration_read
message_declared message tokens rest is read = rw (is, read) refl

pub message_stops : (e : Stop) (tokens rest : List Token) → is_mark m.Message (head tokens) ≡ true → Fails e rest (passed (message_read tokens)) → Fails e rest (declaration_read tokens)
unfolding declaration_read
message_stops stop.NoMemory tokens rest is fails = tt
message_stops stop.Refused tokens rest is fails = let read = passed_fails (message_read tokens) stop.Refused rest fails in rw (is, read) refl

pub actor_stops : (e : Stop) (tokens rest : List Token) → is_mark m.Message (head tokens) ≡ false → Fails e rest (actor_read tokens) → Fails e rest (declaration_read tokens)
unfolding declaration_read
actor_stops stop.NoMemory tokens rest is fails = tt
actor_stops stop.Refused tokens rest is fails = rw (is, fails) refl

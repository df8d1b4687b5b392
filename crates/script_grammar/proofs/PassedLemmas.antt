-- What passing over a rule leaves, by what passing over its parts leaves.
use Rattle.std.proofs.Common.{◌≡◌, Bool, true, false, cond, List, Option, Ok, Err, refl, ap, ◌∙◌}
use Rattle.script_tokens.specs.declared.token.Token.{Token}
use Rattle.script_tokens.specs.declared.token.Mark.{Mark}
use Rattle.script_grammar.specs.Reading.{Outcome, and_then, head, pure, passed, choice, ◌>>=◌, ◌>>◌, ◌&◌, ◌<<◌, ◌<$>◌}
use Rattle.script_grammar.specs.ScriptReading.{Reads, mark_read, with_first, after_mark, further, separated_read}
use Rattle.script_grammar.proofs.ReaderLemmas.{read_is, refused_is}

abbrev pub passing : {A : Type 0} → Reads A → Reads (Unit {0})
passing reader = λ ts. passed (reader ts)

-- the one reader leaves what the other leaves
pub record Passes {A : Type 0} (r : Reads (Unit {0})) (whole : Reads A) : Type 0 where
  pub is : (ts : List Token) → passed (whole ts) ≡ r ts

-- ---- the words of the rules

pub passes_itself : {A : Type 0} (whole : Reads A) → Passes (passing whole) whole
passes_itself whole = record { is = λ ts. refl }

skip_by : {P A : Type 0} (r : Reads (Unit {0})) (whole : Reads A) → Passes r whole → (x : Outcome Token P) → passed (and_then x (λ _. whole)) ≡ and_then x (λ _. r)
skip_by r whole k (Ok p) = k.is p.1
skip_by r whole k (Err e) = refl

pub passes_skip : {P A : Type 0} (p : Reads P) {r : Reads (Unit {0})} {whole : Reads A} → Passes r whole → Passes (p >> r) (p >> whole)
passes_skip {P} {A} p {r} {whole} k = record { is = λ ts. skip_by r whole k (p ts) }

both_second : {A B : Type 0} (a : A) (y : Outcome Token B) → passed (and_then {B = A × B} y (λ b. pure (a, b))) ≡ passed y
both_second a (Ok p) = refl
both_second a (Err e) = refl

both_by : {A B : Type 0} (r : Reads (Unit {0})) (whole : Reads B) → Passes r whole → (x : Outcome Token A)
    → passed (and_then {B = A × B} x (λ a. whole >>= λ b. pure (a, b))) ≡ and_then x (λ _. r)
both_by r whole k (Ok p) = both_second p.0 (whole p.1) ∙ k.is p.1
both_by r whole k (Err e) = refl

pub passes_both : {A B : Type 0} (p : Reads A) {r : Reads (Unit {0})} {whole : Reads B} → Passes r whole → Passes (p >> r) (p & whole)
passes_both {A} {B} p {r} {whole} k = record { is = λ ts. both_by r whole k (p ts) }

before : {A B : Type 0} (x : Outcome Token A) (r : Reads B) → and_then x (λ _. r) ≡ and_then (passed x) (λ _. r)
before (Ok p) r = refl
before (Err e) r = refl

-- what the first part gives is passed over too
pub passes_two : {A B : Type 0} {r : Reads (Unit {0})} {first : Reads A} {r' : Reads (Unit {0})} {second : Reads B} → Passes r first → Passes r' second
    → Passes (r >> r') (first & second)
passes_two {A} {B} {r} {first} {r'} {second} k l = record {
  is = λ ts. both_by r' second l (first ts) ∙ before (first ts) r' ∙ ap (λ (x : Outcome Token (Unit {0})). and_then x (λ _. r')) (k.is ts);
}

keep_second : {A B : Type 0} (a : A) (y : Outcome Token B) → passed (and_then y (λ _. pure a)) ≡ passed y
keep_second a (Ok p) = refl
keep_second a (Err e) = refl

keep_by : {A B : Type 0} (q : Reads B) (x : Outcome Token A) → passed (and_then x (λ a. q >>= λ _. pure a)) ≡ and_then (passed x) (λ _. passing q)
keep_by q (Ok p) = keep_second p.0 (q p.1)
keep_by q (Err e) = refl

pub passes_keep : {A B : Type 0} {r : Reads (Unit {0})} {whole : Reads A} → Passes r whole → (q : Reads B) → Passes (r >> passing q) (whole << q)
passes_keep {A} {B} {r} {whole} k q = record {
  is = λ ts. keep_by q (whole ts) ∙ ap (λ (x : Outcome Token (Unit {0})). and_then x (λ _. passing q)) (k.is ts);
}

made_by : {A B : Type 0} (make : A → B) (x : Outcome Token A) → passed (and_then x (λ a. pure (make a))) ≡ passed x
made_by make (Ok p) = refl
made_by make (Err e) = refl

pub passes_made : {A B : Type 0} (make : A → B) {r : Reads (Unit {0})} {whole : Reads A} → Passes r whole → Passes r (make <$> whole)
passes_made {A} {B} make {r} {whole} k = record { is = λ ts. made_by make (whole ts) ∙ k.is ts }

choice_by : {A : Type 0} (b : Bool) (r r' : Outcome Token (Unit {0})) (whole whole' : Outcome Token A) → passed whole ≡ r → passed whole' ≡ r' → passed (cond b whole whole') ≡ cond b r r'
choice_by true r r' whole whole' one other = one
choice_by false r r' whole whole' one other = other

pub passes_choice : {A : Type 0} (test : Option Token → Bool) {r r' : Reads (Unit {0})} {whole whole' : Reads A} → Passes r whole → Passes r' whole'
    → Passes (choice test r r') (choice test whole whole')
passes_choice {A} test {r} {r'} {whole} {whole'} k l = record { is = λ ts. choice_by (test (head ts)) (r ts) (r' ts) (whole ts) (whole' ts) (k.is ts) (l.is ts) }

-- ---- lists

pub separated_passed : {X : Type 0} (mark : Mark) (reader : Reads X) (ts : List Token)
    → passed (separated_read mark reader ts) ≡ and_then (passed (reader ts)) (λ _ us. passed (further mark reader us))
separated_passed mark reader ts = (passes_made with_first (passes_two (passes_itself reader) (passes_itself (further mark reader)))).is ts

-- behind the first phrase
pub separated_is : {X : Type 0} (mark : Mark) (reader : Reads X) (ts us : List Token) (u : Unit {0}) → passed (reader ts) ≡ Ok (u, us)
    → passed (separated_read mark reader ts) ≡ passed (further mark reader us)
separated_is mark reader ts us u read =
    separated_passed mark reader ts ∙ ap (λ (x : Outcome Token (Unit {0})). and_then x (λ _ vs. passed (further mark reader vs))) read

pub behind_passed : {X : Type 0} (mark : Mark) (reader : Reads X) (ts : List Token)
    → passed (after_mark mark reader ts) ≡ and_then (mark_read mark ts) (λ _ us. passed (reader us))
behind_passed mark reader ts = (passes_skip (mark_read mark) (passes_itself reader)).is ts

-- ---- what was passed over

pub passed_some : {X : Type 0} (read : Outcome Token X) (u : Unit {0}) (rest : List Token) → passed read ≡ Ok (u, rest) → (x : X) × (read ≡ Ok (x, rest))
passed_some {X} (Ok p) u rest e = (p.0, ap (λ (l : List Token). Ok (p.0, l)) (read_is tt u p.1 rest e).1)
passed_some {X} (Err other) u rest e = absurd cc

pub passed_none : {X : Type 0} (read : Outcome Token X) (rest : List Token) → passed read ≡ Err rest → read ≡ Err rest
passed_none {X} (Ok p) rest e = absurd cc
passed_none {X} (Err other) rest e = ap (λ (l : List Token). Err l) (refused_is {X = Unit {0}} other rest e)

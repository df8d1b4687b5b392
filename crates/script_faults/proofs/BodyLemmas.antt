-- The faults of a body, from those of its statements as they are read.
use Rattle.std.proofs.Common.{◌≡◌, ◌∙◌, ◌++◌, ◌+◌, ◌-◌, ℕ, suc, Bool, true, List, [], ◌∷◌, length, take, replicate, Option, None, refl, sym, ap, append_assoc, arith}
use Rattle.std.specs.Prelude.{fold}
use Rattle.std.specs.List.{flat_map}
use Rattle.script_tokens.specs.declared.token.Token.{Token}
use Rattle.script_grammar.specs.Reading.{Outcome}
use Rattle.script_grammar.specs.declared.tree.StatementDecl.{StatementDecl}
use Rattle.script_grammar.specs.declared.tree.StatementDecl.TheVariants as statement_is
use Rattle.script_faults.specs.declared.body.Body.{Body}
use Rattle.script_faults.specs.declared.first.Fault.{Fault}
use Rattle.script_faults.specs.declared.statement.Said.{Said}
use Rattle.script_faults.specs.declared.statement.Scope.{Scope}
use Rattle.script_faults.specs.First.{first_of, too_many}
use Rattle.script_grammar.specs.Gives.{Noted}
use Rattle.script_faults.specs.Numbered.{at_most, numbered_faults}
use Rattle.script_faults.specs.Open.{open_after, open_fault, open_faults}
use Rattle.script_faults.specs.Statements.{reply_closed, reply_noted, said_of, stop_before}
use Rattle.script_faults.specs.Steps.{spoken_faults, statement_after}
use Rattle.script_faults.specs.Faults.{body_faults, reply_faults, statement_faults, statement_place, stop_fault, stop_faults}
use Rattle.script_faults.proofs.FirstLemmas.{first_of-append, first_of-then}
use Rattle.script_faults.proofs.ReplyLemmas.{replies_first}
use Rattle.script_faults.proofs.SameLemmas.{Same, numbered_same, same_cross, same_equal, same_joined, same_swap, same_then}

-- ---- one statement

said_place : (x : StatementDecl) → (said_of x).place ≡ statement_place x
said_place (statement_is.Print place items) = refl
said_place (statement_is.Post place target kind operands) = refl
said_place (statement_is.Stop place) = refl
said_place (statement_is.Reply place number_place number operand) = refl

reply_said : (marks : List Bool) (x : StatementDecl) → reply_noted marks (said_of x).reply ≡ open_fault marks x
reply_said marks (statement_is.Print place items) = refl
reply_said marks (statement_is.Post place target kind operands) = refl
reply_said marks (statement_is.Stop place) = refl
reply_said marks (statement_is.Reply place number_place number operand) = refl

closed_said : (marks : List Bool) (x : StatementDecl) → reply_closed marks (said_of x).reply ≡ open_after marks x
closed_said marks (statement_is.Print place items) = refl
closed_said marks (statement_is.Post place target kind operands) = refl
closed_said marks (statement_is.Stop place) = refl
closed_said marks (statement_is.Reply place number_place number operand) = refl

abbrev faults_in : Scope → StatementDecl → List Fault
faults_in scope x = statement_faults scope.messages.now.decls.now scope.actors.now scope.variables.now x

pub statement_noted : (s new : Body) (said : Said) (one two three : Option Fault) (rest : List Token) (read : Outcome Token StatementDecl) → one ≡ first_of s.found (stop_before s.stop)
    → Noted (λ x. (said ≡ said_of x) × (two ≡ first_of one (faults_in s.scope x))) rest read
    → three ≡ first_of two (reply_noted s.marks said.reply) → new.marks ≡ reply_closed s.marks said.reply → new.scope ≡ s.scope → new.number ≡ s.number + 1
    → new.stop ≡ said.stop → new.found ≡ first_of three (at_most 16 s.number said.place) → Noted (λ x. new ≡ statement_after s x) rest read
statement_noted s new said one two three rest read is-one noted is-three are-marks scope number is-stop is-found =
    let x = noted.phrase in
    let same = noted.holds.0 in
    let a = stop_before s.stop in
    let b = faults_in s.scope x in
    let c = open_fault s.marks x in
    let d = at_most 16 s.number (statement_place x) in
    let replied : three ≡ first_of two c = is-three ∙ ap (λ (t : Said). first_of two (reply_noted s.marks t.reply)) same ∙ ap (first_of two) (reply_said s.marks x) in
    let many : new.found ≡ first_of three d =
    is-found ∙ ap (λ (t : Said). first_of three (at_most 16 s.number t.place)) same ∙ ap (λ (p : ℕ). first_of three (at_most 16 s.number p)) (said_place x) in
    let found : new.found ≡ first_of s.found (spoken_faults s x) =
    first_of-then s.found three new.found (a ++ b ++ c) d (first_of-then s.found two three (a ++ b) c (first_of-then s.found one two a b is-one noted.holds.1) replied) many in
    let marks : new.marks ≡ open_after s.marks x = are-marks ∙ ap (λ (t : Said). reply_closed s.marks t.reply) same ∙ closed_said s.marks x in
    let stop : new.stop ≡ (said_of x).stop = is-stop ∙ ap (λ (t : Said). t.stop) same in
    record {
      phrase = x;
      reads = noted.reads;
      holds = λ i. record { scope = scope i; number = number i; marks = marks i; stop = stop i; found = found i };
    }

-- ---- stops

-- each `stop` in front of a statement, where this one stands in front of the first
abbrev stops_from : Option ℕ → List StatementDecl → List Fault
stops_from stop [] = []
stops_from stop (x ∷ xs) = stop_before stop ++ stops_from (said_of x).stop xs

stop_said : (x : StatementDecl) → stop_before (said_of x).stop ≡ stop_fault x
stop_said (statement_is.Print place items) = refl
stop_said (statement_is.Post place target kind operands) = refl
stop_said (statement_is.Stop place) = refl
stop_said (statement_is.Reply place number_place number operand) = refl

stops_behind : (x : StatementDecl) (xs : List StatementDecl) → stops_from (said_of x).stop xs ≡ flat_map stop_fault (take (length xs) (x ∷ xs))
stops_behind x [] = refl
stops_behind x (y ∷ ys) = λ i. stop_said x i ++ stops_behind y ys i

stops_same : (body : List StatementDecl) → stops_from None body ≡ stop_faults body
stops_same [] = refl
stops_same (x ∷ xs) =
    let less : length xs ≡ suc (length xs) - 1 = omega arith in
    stops_behind x xs ∙ ap (λ (n : ℕ). flat_map stop_fault (take n (x ∷ xs))) less

-- ---- all statements

module _ (scope : Scope) where
  abbrev spoken : Option ℕ → List Bool → ℕ → List StatementDecl → List Fault
  spoken stop marks number [] = []
  spoken stop marks number (x ∷ xs) =
      (stop_before stop ++ faults_in scope x ++ open_fault marks x ++ at_most 16 number (statement_place x)) ++ spoken (said_of x).stop (open_after marks x) (number + 1) xs

  spoken_same : (stop : Option ℕ) (marks : List Bool) (number : ℕ) (xs : List StatementDecl)
      → Same (spoken stop marks number xs) ((stops_from stop xs ++ open_faults marks xs) ++ numbered_faults 16 statement_place (faults_in scope) number xs)
  spoken_same stop marks number [] = same_equal refl
  spoken_same stop marks number (x ∷ xs) =
      let a = stop_before stop in
      let b = faults_in scope x in
      let c = open_fault marks x in
      let d = at_most 16 number (statement_place x) in
      let e = stops_from (said_of x).stop xs in
      let f = open_faults (open_after marks x) xs in
      let g = numbered_faults 16 statement_place (faults_in scope) (number + 1) xs in
      let one : Same (((a ++ b) ++ c) ++ d) ((a ++ c) ++ (b ++ d)) = same_then (same_equal (append_assoc (a ++ b) c d)) (same_cross a b c d) in
      let right : Same ((b ++ d) ++ g) ((b ++ d) ++ g) = same_equal refl in
      same_then (same_joined one (spoken_same (said_of x).stop (open_after marks x) (number + 1) xs))
      (same_then (same_cross (a ++ c) (b ++ d) (e ++ f) g) (same_joined (same_cross a c e f) right))

body_found : (s : Body) (xs : List StatementDecl) → (fold statement_after s xs).found ≡ first_of s.found (spoken s.scope s.stop s.marks s.number xs)
body_found s [] = refl
body_found s (x ∷ xs) =
    body_found (statement_after s x) xs ∙ sym (first_of-append s.found (spoken_faults s x) (spoken s.scope (said_of x).stop (open_after s.marks x) (s.number + 1) xs))

-- stops and replies, and then the most and each statement's own
regroup : (a b c d : List Fault) → Same ((a ++ b) ++ (c ++ d)) (((c ++ a) ++ d) ++ b)
regroup a b c d = same_then (same_swap (a ++ b) (c ++ d)) (same_then (same_cross c d a b) (same_equal (sym (append_assoc (c ++ a) d b))))

pub noted_body : (scope : Scope) (patterns : ℕ) (marks : List Bool) (before : Option Fault) (new : Body) (rest : List Token) (read : Outcome Token (List StatementDecl))
    → marks ≡ replicate patterns true → Noted (λ xs. new ≡ fold statement_after (record { scope = scope; number = 0; marks = marks; stop = None; found = before }) xs) rest read
    → Noted (λ xs. new.found ≡ first_of before (body_faults scope.messages.now.decls.now scope.actors.now scope.variables.now xs ++ reply_faults patterns [] xs)) rest read
noted_body scope patterns marks before new rest read are-marks noted =
    let xs = noted.phrase in
    let start : Body = record { scope = scope; number = 0; marks = marks; stop = None; found = before } in
    let stops = stop_faults xs in
    let replies = reply_faults patterns [] xs in
    let open' : open_faults marks xs ≡ replies = ap (λ (m : List Bool). open_faults m xs) are-marks ∙ replies_first patterns xs in
    let left : Same (stops_from None xs ++ open_faults marks xs) (stops ++ replies) = same_joined (same_equal (stops_same xs)) (same_equal open') in
    record {
      phrase = xs;
      reads = noted.reads;
      holds = ap (λ (b : Body). b.found) noted.holds ∙ body_found start xs
          ∙ (same_then (spoken_same scope None marks 0 xs)
          (same_then (same_joined left (numbered_same 16 statement_place (faults_in scope) xs))
          (regroup stops replies (too_many 16 statement_place xs) (flat_map (faults_in scope) xs)))).is before;
    }

-- The faults of definitions and of actors, from those of their parts as they are read.
use Rattle.std.proofs.Common.{◌≡◌, ◌∙◌, ◌++◌, ◌+◌, ℕ, ℤ, List, [], ◌∷◌, length, map, Option, Ok, refl, sym, ap, append_assoc}
use Rattle.std.specs.Prelude.{fold}
use Rattle.std.specs.Option.{option_map}
use Rattle.script_tokens.specs.Marks.{kind_is}
use Rattle.script_tokens.specs.declared.token.Token.{Token}
use Rattle.script_tokens.specs.declared.token.Mark.TheVariants as m
use Rattle.script_grammar.specs.Reading.{Outcome, repeated}
use Rattle.script_grammar.specs.ScriptReading.{actor_read, begins_statement, definition_read, guard_read, mark_read, name_read, next_is, pattern_read, separated_read, statement_read, window_read}
use Rattle.script_grammar.specs.declared.tree.MessageDecl.{MessageDecl}
use Rattle.script_grammar.specs.declared.tree.RuleDecl.{RuleDecl}
use Rattle.script_grammar.specs.declared.tree.Spelt.{Spelt}
use Rattle.script_names.specs.Names.{item_of}
use Rattle.script_names.specs.Scope.{Variable, type_alone, typed, types_bound, variables_from}
use Rattle.script_names.proofs.RowLemmas.{bound_all_item, item_of-map}
use Rattle.script_faults.specs.declared.first.Fault.{Fault}
use Rattle.script_faults.specs.declared.rule.Rules.{Rules}
use Rattle.script_faults.specs.First.{first_of}
use Rattle.script_grammar.specs.Gives.{Noted}
use Rattle.script_faults.specs.Numbered.{at_most, numbered_faults}
use Rattle.script_faults.specs.Steps.{rule_after}
use Rattle.script_faults.specs.Faults.{actor_faults, body_faults, guard_comparisons, guard_faults, patterns_faults, reply_faults, rule_faults, twice_declared, window_faults}
use Rattle.script_faults.proofs.BindingLemmas.{slot_place}
use Rattle.script_faults.proofs.FirstLemmas.{first_of-append, first_of-then}
use Rattle.script_faults.proofs.MeaningLemmas.{same_body, same_guard}
use Rattle.script_faults.proofs.SameLemmas.{Same, numbered_same, same_equal, same_joined, same_past, same_then}

-- ---- a definition

-- the window is noted in front of the guard, and each reply in the body
in_order : (p w g b r : List Fault) → Same (p ++ (w ++ (g ++ (b ++ r)))) (p ++ g ++ b ++ w ++ r)
in_order p w g b r =
    let front : Same p p = same_equal refl in
    let guard : Same g g = same_equal refl in
    let later : Same (g ++ (w ++ (b ++ r))) (g ++ (b ++ (w ++ r))) = same_joined guard (same_past w b r) in
    let regrouped : p ++ (g ++ (b ++ (w ++ r))) ≡ p ++ g ++ b ++ w ++ r =
    sym (append_assoc p g (b ++ (w ++ r))) ∙ sym (append_assoc (p ++ g) b (w ++ r)) ∙ sym (append_assoc (p ++ g ++ b) w r) in
    same_then (same_joined front (same_then (same_past w g (b ++ r)) later)) (same_equal regrouped)

module _ (messages : List MessageDecl) (actors : List (List ℕ × ℕ)) where
  pub noted_rule : (place open' close count : ℕ) (window : Option (ℕ × ℤ)) (variables : List Variable) (tokens one two three four five six rest : List Token) (f0 f1 f2 f3 f4 : Option Fault)
      → mark_read m.When tokens ≡ Ok (place, one)
      → Noted (λ ps. (count ≡ length ps) × (variables ≡ types_bound [] (variables_from messages 0 ps))
      × (f1 ≡ first_of f0 (patterns_faults messages ps ++ twice_declared slot_place (variables_from messages 0 ps)))) two (separated_read m.With pattern_read one)
      → window_read two ≡ Ok (window, three) → f2 ≡ first_of f1 (window_faults window)
      → Noted (λ guard. f3 ≡ first_of f2 (guard_faults variables (guard_comparisons guard))) four (guard_read three)
      → mark_read m.OpenBrace four ≡ Ok (open', five)
      → Noted (λ body. f4 ≡ first_of f3 (body_faults messages actors variables body ++ reply_faults count [] body)) six (repeated (next_is begins_statement) statement_read five)
      → mark_read m.CloseBrace six ≡ Ok (close, rest)
      → Noted (λ rule. (place ≡ rule.place) × (f4 ≡ first_of f0 (rule_faults messages actors rule))) rest (definition_read tokens)
  unfolding definition_read
  noted_rule place open' close count window variables tokens one two three four five six rest f0 f1 f2 f3 f4 read patterned windowed is-window guarded opened embodied closed =
      let ps = patterned.phrase in
      let body = embodied.phrase in
      let cs = guard_comparisons guarded.phrase in
      let all = variables_from messages 0 ps in
      let means : (name : List ℕ) → item_of name variables ≡ option_map type_alone (item_of name all) =
      λ name. ap (item_of name) patterned.holds.1 ∙ bound_all_item name [] (map typed all) ∙ item_of-map type_alone name all in
      let p = patterns_faults messages ps ++ twice_declared slot_place all in
      let w = window_faults window in
      let g = guard_faults all cs in
      let b = body_faults messages actors all body in
      let r = reply_faults (length ps) [] body in
      let guard : f3 ≡ first_of f2 g = guarded.holds ∙ ap (first_of f2) (same_guard variables all means cs) in
      let last : f4 ≡ first_of f3 (b ++ r) =
      embodied.holds ∙ (λ i. first_of f3 (same_body variables all means messages actors body i ++ reply_faults (patterned.holds.0 i) [] body)) in
      let found : f4 ≡ first_of f0 (p ++ (w ++ (g ++ (b ++ r)))) =
      first_of-then f0 f1 f4 p (w ++ (g ++ (b ++ r))) patterned.holds.2 (first_of-then f1 f2 f4 w (g ++ (b ++ r)) is-window (first_of-then f2 f3 f4 g (b ++ r) guard last)) in
      record {
        phrase = record { place = place; patterns = ps; window = window; guard = guarded.phrase; body = body };
        reads = rw (read, patterned.reads, windowed, guarded.reads, opened, embodied.reads, closed) refl;
        holds = (refl, found ∙ (in_order p w g b r).is f0);
      }

-- ---- an actor

abbrev rule_place : RuleDecl → ℕ
rule_place rule = rule.place

abbrev faults_in : Rules → RuleDecl → List Fault
faults_in s rule = rule_faults s.messages.now.decls.now s.actors.now rule

pub rule_noted : (s new : Rules) (place : ℕ) (middle : Option Fault) (rest : List Token) (read : Outcome Token RuleDecl)
    → Noted (λ rule. (place ≡ rule.place) × (middle ≡ first_of s.found (faults_in s rule))) rest read → new.messages ≡ s.messages → new.actors ≡ s.actors → new.number ≡ s.number + 1
    → new.found ≡ first_of middle (at_most 16 s.number place) → Noted (λ rule. new ≡ rule_after s rule) rest read
rule_noted s new place middle rest read noted messages actors number is-found =
    let rule = noted.phrase in
    let found : new.found ≡ first_of s.found (faults_in s rule ++ at_most 16 s.number (rule_place rule)) =
    first_of-then s.found middle new.found (faults_in s rule) (at_most 16 s.number (rule_place rule)) noted.holds.1
    (is-found ∙ ap (λ (p : ℕ). first_of middle (at_most 16 s.number p)) noted.holds.0) in
    record {
      phrase = rule;
      reads = noted.reads;
      holds = λ i. record { messages = messages i; actors = actors i; number = number i; found = found i };
    }

rules_found : (s : Rules) (rules : List RuleDecl) → (fold rule_after s rules).found ≡ first_of s.found (numbered_faults 16 rule_place (faults_in s) s.number rules)
rules_found s [] = refl
rules_found s (rule ∷ rules) =
    rules_found (rule_after s rule) rules
    ∙ sym (first_of-append s.found (faults_in s rule ++ at_most 16 s.number (rule_place rule)) (numbered_faults 16 rule_place (faults_in s) (s.number + 1) rules))

pub noted_actor : (start new : Rules) (place open' close : ℕ) (name : Spelt) (tokens one two three four rest : List Token) → start.number ≡ 0 → mark_read m.Actor tokens ≡ Ok (place, one)
    → name_read one ≡ Ok (name, two) → mark_read m.OpenBrace two ≡ Ok (open', three)
    → Noted (λ rules. new ≡ fold rule_after start rules) four (repeated (next_is (kind_is m.When)) definition_read three) → mark_read m.CloseBrace four ≡ Ok (close, rest)
    → Noted (λ actor. new.found ≡ first_of start.found (actor_faults start.messages.now.decls.now start.actors.now actor)) rest (actor_read tokens)
unfolding actor_read
noted_actor start new place open' close name tokens one two three four rest none read named opened noted closed =
    let rules = noted.phrase in
    record {
      phrase = record { name = name; rules = rules };
      reads = rw (read, named, opened, noted.reads, closed) refl;
      holds = ap (λ (r : Rules). r.found) noted.holds ∙ rules_found start rules
          ∙ ap (λ (n : ℕ). first_of start.found (numbered_faults 16 rule_place (faults_in start) n rules)) none
          ∙ (numbered_same 16 rule_place (faults_in start) rules).is start.found;
    }

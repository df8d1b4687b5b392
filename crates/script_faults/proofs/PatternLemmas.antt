-- The faults of patterns and of their variables, as they are read.
use Rattle.std.proofs.Common.{◌≡◌, ◌∙◌, ◌++◌, ◌+◌, ℕ, Bool, true, false, not, List, [], ◌∷◌, length, Bor, Option, None, Some, Ok, refl, sym, ap, append_assoc, arith}
use Rattle.std.specs.Prelude.{MatchOption, fold}
use Rattle.std.specs.Option.{is_some, option_map}
use Rattle.std.proofs.lemmas.List.{append-nil}
use Rattle.script_tokens.specs.Listed.{kind_name, next_name}
use Rattle.script_tokens.specs.declared.token.Token.{Token}
use Rattle.script_tokens.specs.declared.token.Kind.{Kind}
use Rattle.script_tokens.specs.declared.token.Kind.TheVariants as kind
use Rattle.script_tokens.specs.declared.token.Mark.TheVariants as m
use Rattle.script_grammar.specs.Grammar.{variable_by, variable_of}
use Rattle.script_grammar.specs.Reading.{Outcome, given_by, token}
use Rattle.script_grammar.specs.ScriptReading.{listed_read, mark_read, name_read, pattern_read}
use Rattle.script_grammar.specs.declared.fault.ScriptCause.TheVariants.{TwiceDeclared}
use Rattle.script_grammar.specs.declared.tree.FieldDecl.{FieldDecl}
use Rattle.script_grammar.specs.declared.tree.MessageDecl.{MessageDecl}
use Rattle.script_grammar.specs.declared.tree.PatternDecl.{PatternDecl}
use Rattle.script_grammar.specs.declared.tree.Spelt.{Spelt}
use Rattle.join_base.specs.declared.message.Sort.{Sort}
use Rattle.script_names.specs.declared.scope.Slot.{Slot}
use Rattle.script_names.specs.Names.{item_of}
use Rattle.script_names.specs.Scope.{Variable, field_sorts, message_of, sort_at, sorts_among, sorts_in, sorts_of, types_bound, variable_at, variables_from, variables_in}
use Rattle.script_faults.specs.declared.first.Fault.{Fault}
use Rattle.script_faults.specs.declared.pattern.Binding.{Binding}
use Rattle.script_faults.specs.Again.{again_faults}
use Rattle.script_faults.specs.First.{fault_if, first_of}
use Rattle.script_grammar.specs.Gives.{Noted}
use Rattle.script_faults.specs.Numbered.{at_most, numbered_faults}
use Rattle.script_faults.specs.Steps.{Bound, HasBound, declared_by, pattern_after, pattern_variables, variable_after}
use Rattle.script_faults.specs.Faults.{count_faults, fields_among, fields_of, pattern_faults, patterns_faults, twice_declared}
use Rattle.script_faults.proofs.BindingLemmas.{again-append, again_twice, types_bound-append, slot_place}
use Rattle.script_faults.proofs.FirstLemmas.{first_of-append, first_of-then}
use Rattle.script_grammar.proofs.WalkLemmas.{one_ok}
use Rattle.script_faults.proofs.SameLemmas.{Same, numbered_same, same_cross, same_equal, same_joined, same_swap, same_then}

-- ---- one variable

not_not : (b : Bool) → not (not b) ≡ b
not_not true = refl
not_not false = refl

pub noted_again : (before found : Option Fault) (rows : List Variable) (name : List ℕ) (slot : Slot) (is_new : Bool) → is_new ≡ not (is_some (item_of name rows))
    → found ≡ first_of before (fault_if (not is_new) TwiceDeclared slot.place) → found ≡ first_of before (again_faults rows ((name, slot) ∷ []))
noted_again before found rows name slot is_new is found_is =
    let there : not is_new ≡ is_some (item_of name rows) = ap not is ∙ not_not (is_some (item_of name rows)) in
    found_is ∙ ap (λ (b : Bool). first_of before (fault_if b TwiceDeclared slot.place)) there
    ∙ ap (first_of before) (sym (append-nil (fault_if (is_some (item_of name rows)) TwiceDeclared slot.place)))

one_some : {A : Type 0} (a b : A) → Some a ≡ Some b → a ≡ b
one_some a b same = cc

abbrev Named : Type 0
Named = ℕ × Option (List ℕ)

-- the name that stood in front is that of the variable
kind_named : (place : ℕ) (k : Kind) (v : Named) → variable_by place k ≡ Some v → kind_name k ≡ v.1
kind_named place (kind.Name n) v is = ap (λ (p : Named). p.1) (one_some (place, Some n) v is)
kind_named place (kind.Mark m.Blank) v is = ap (λ (p : Named). p.1) (one_some (place, None) v is)
kind_named place (kind.Mark _) v is = absurd cc
kind_named place (kind.Number n) v is = absurd cc
kind_named place (kind.Words t) v is = absurd cc
kind_named place kind.Bad v is = absurd cc

read_named : (tokens rest : List Token) (v : Named) → token variable_of tokens ≡ Ok (v, rest) → next_name tokens ≡ v.1
read_named [] rest v read = absurd cc
read_named (t ∷ ts) rest v read = by (variable_of t) refl read
  where
    by : (o : Option Named) → variable_of t ≡ o → given_by o t ts ≡ Ok (v, rest) → next_name (t ∷ ts) ≡ v.1
    by None is given = absurd cc
    by (Some w) is given = let same = ap (λ (p : Named × List Token). p.0) (one_ok (w, ts) (v, rest) given) in kind_named t.place t.kind v (is ∙ ap (λ (p : Named). Some p) same)

seen_named : (name : Option (Bor (List ℕ))) (tokens : List Token) → MatchOption name (next_name tokens ≡ None) (λ n. next_name tokens ≡ Some n.now) → option_map (λ (n : Bor (List ℕ)). n.now) name ≡ next_name tokens
seen_named None tokens is = sym is
seen_named (Some n) tokens is = sym is

-- what the next variable stands for
abbrev slot_of : Binding → ℕ → Sort → Slot
slot_of s place sort = record { place = place; pattern = s.pattern; field = s.number; sort = sort }

pub variable_noted : (s new : Binding) (place : ℕ) (other : Option (List ℕ)) (name : Option (Bor (List ℕ))) (sort : Sort) (tokens rest : List Token)
    → MatchOption name (next_name tokens ≡ None) (λ n. next_name tokens ≡ Some n.now) → token variable_of tokens ≡ Ok ((place, other), rest)
    → sort ≡ sort_at (sorts_among s.fields) s.number
    → new.pattern ≡ s.pattern → new.fields ≡ s.fields → new.number ≡ s.number + 1
    → new.variables ≡ types_bound s.variables (variable_at (slot_of s place sort) (option_map (λ (n : Bor (List ℕ)). n.now) name))
    → new.found ≡ first_of s.found (again_faults s.variables (variable_at (slot_of s place sort) (option_map (λ (n : Bor (List ℕ)). n.now) name))) → Noted (λ v. new ≡ variable_after s v) rest (token variable_of tokens)
variable_noted s new place other name sort tokens rest named read is-sort pattern fields number are-variables is-found =
    let same : option_map (λ (n : Bor (List ℕ)). n.now) name ≡ other = seen_named name tokens named ∙ read_named tokens rest (place, other) read in
    let one : variable_at (slot_of s place sort) (option_map (λ (n : Bor (List ℕ)). n.now) name) ≡ declared_by s (place, other) = λ i. variable_at (slot_of s place (is-sort i)) (same i) in
    let variables = are-variables ∙ ap (types_bound s.variables) one in
    let found = is-found ∙ ap (λ (vs : List Variable). first_of s.found (again_faults s.variables vs)) one in
    record {
      phrase = (place, other);
      reads = read;
      holds = λ i. record { pattern = pattern i; fields = fields i; number = number i; variables = variables i; found = found i };
    }

-- ---- the variables of a pattern

abbrev variables_behind : Binding → List (ℕ × Option (List ℕ)) → List Variable
variables_behind s vs = variables_in s.pattern (sorts_among s.fields) s.number vs

binding_bound : (s : Binding) (vs : List (ℕ × Option (List ℕ))) → (fold variable_after s vs).variables ≡ types_bound s.variables (variables_behind s vs)
binding_bound s [] = refl
binding_bound s (v ∷ vs) = binding_bound (variable_after s v) vs ∙ sym (types_bound-append s.variables (declared_by s v) (variables_behind (variable_after s v) vs))

binding_found : (s : Binding) (vs : List (ℕ × Option (List ℕ))) → (fold variable_after s vs).found ≡ first_of s.found (again_faults s.variables (variables_behind s vs))
binding_found s [] = refl
binding_found s (v ∷ vs) =
    binding_found (variable_after s v) vs
    ∙ sym (first_of-append s.found (again_faults s.variables (declared_by s v)) (again_faults (types_bound s.variables (declared_by s v)) (variables_behind (variable_after s v) vs)))
    ∙ ap (first_of s.found) (sym (again-append s.variables (declared_by s v) (variables_behind (variable_after s v) vs)))

binding_pattern : (s : Binding) (vs : List (ℕ × Option (List ℕ))) → (fold variable_after s vs).pattern ≡ s.pattern
binding_pattern s [] = refl
binding_pattern s (v ∷ vs) = binding_pattern (variable_after s v) vs

binding_number : (s : Binding) (vs : List (ℕ × Option (List ℕ))) → (fold variable_after s vs).number ≡ s.number + length vs
binding_number s [] = omega arith
binding_number s (v ∷ vs) = let others = binding_number (variable_after s v) vs in omega (arith, others)

pub noted_variables : (s new : Binding) (rest : List Token) (read : Outcome Token (List Named)) → s.number ≡ 0 → Noted (λ vs. new ≡ fold variable_after s vs) rest read
    → Noted (λ vs. (new.number ≡ length vs) × HasBound s new vs) rest read
noted_variables s new rest read none noted =
    let vs = noted.phrase in
    let zero_more : 0 + length vs ≡ length vs = omega arith in
    let number : new.number ≡ length vs = ap (λ (b : Binding). b.number) noted.holds ∙ binding_number s vs ∙ ap (λ (n : ℕ). n + length vs) none ∙ zero_more in
    let bound' : new.variables ≡ types_bound s.variables (variables_in s.pattern (sorts_among s.fields) 0 vs) =
    ap (λ (b : Binding). b.variables) noted.holds ∙ binding_bound s vs ∙ ap (λ (n : ℕ). types_bound s.variables (variables_in s.pattern (sorts_among s.fields) n vs)) none in
    let found : new.found ≡ first_of s.found (again_faults s.variables (variables_in s.pattern (sorts_among s.fields) 0 vs)) =
    ap (λ (b : Binding). b.found) noted.holds ∙ binding_found s vs
    ∙ ap (λ (n : ℕ). first_of s.found (again_faults s.variables (variables_in s.pattern (sorts_among s.fields) n vs))) none in
    record {
      phrase = vs;
      reads = noted.reads;
      holds = (number, record { pattern = ap (λ (b : Binding). b.pattern) noted.holds ∙ binding_pattern s vs; bound = bound'; found = found });
    }

-- ---- one pattern

sorts_seen : (fields : Option (Bor (List FieldDecl))) (message : Option MessageDecl) → fields_among fields ≡ option_map (λ (d : MessageDecl). d.fields) message → sorts_among fields ≡ sorts_in message
sorts_seen None None is = refl
sorts_seen None (Some d) is = absurd cc
sorts_seen (Some f) None is = absurd cc
sorts_seen (Some f) (Some d) is = ap field_sorts (one_some f.now d.fields is)

pub pattern_noted : (s new : Bound) (start middle : Binding) (name : Spelt) (open' close count : ℕ) (tokens one two closing rest : List Token)
    → name_read tokens ≡ Ok (name, one) → mark_read m.Open one ≡ Ok (open', two) → fields_among start.fields ≡ fields_of s.messages name.name
    → start.pattern ≡ s.number → start.variables ≡ s.variables → start.found ≡ s.found
    → Noted (λ vs. (count ≡ length vs) × HasBound start middle vs) closing (listed_read m.Comma (token variable_of) two)
    → mark_read m.Close closing ≡ Ok (close, rest) → new.messages ≡ s.messages → new.number ≡ middle.pattern + 1 → new.variables ≡ middle.variables
    → new.found ≡ first_of middle.found (count_faults (fields_among start.fields) name count ++ at_most 8 middle.pattern name.place)
    → Noted (λ p. new ≡ pattern_after s p) rest (pattern_read tokens)
unfolding pattern_read
pattern_noted s new start middle name open' close count tokens one two closing rest read opened are-fields is-pattern are-variables is-start noted closed messages is-number all-variables is-found =
    let vs = noted.phrase in
    let p : PatternDecl = record { kind = name; variables = vs } in
    let had = noted.holds.1 in
    let own = pattern_variables s p in
    let sorts : sorts_among start.fields ≡ sorts_of s.messages name.name = sorts_seen start.fields (message_of s.messages name.name) are-fields in
    let all : variables_in start.pattern (sorts_among start.fields) 0 vs ≡ own = λ i. variables_in (is-pattern i) (sorts i) 0 vs in
    let numbered : middle.pattern ≡ s.number = had.pattern ∙ is-pattern in
    let number : new.number ≡ s.number + 1 = is-number ∙ ap (λ (n : ℕ). n + 1) numbered in
    let variables : new.variables ≡ types_bound s.variables own = all-variables ∙ had.bound ∙ (λ i. types_bound (are-variables i) (all i)) in
    let again : middle.found ≡ first_of s.found (again_faults s.variables own) = had.found ∙ (λ i. first_of (is-start i) (again_faults (are-variables i) (all i))) in
    let a = again_faults s.variables own in
    let b = pattern_faults s.messages p in
    let c = at_most 8 s.number name.place in
    let counted : new.found ≡ first_of middle.found (b ++ c) =
    is-found ∙ (λ i. first_of middle.found (count_faults (are-fields i) name (noted.holds.0 i) ++ at_most 8 (numbered i) name.place)) in
    let found : new.found ≡ first_of s.found (a ++ b ++ c) =
    first_of-then s.found middle.found new.found a (b ++ c) again counted ∙ ap (first_of s.found) (sym (append_assoc a b c)) in
    record {
      phrase = p;
      reads = rw (read, opened, noted.reads, closed) refl;
      holds = λ i. record { messages = messages i; number = number i; variables = variables i; found = found i };
    }

-- ---- all patterns

abbrev kind_place : PatternDecl → ℕ
kind_place p = p.kind.place

module _ (messages : List MessageDecl) where
  abbrev patterned : List Variable → ℕ → List PatternDecl → List Fault
  patterned rows number [] = []
  patterned rows number (p ∷ ps) =
      let own = variables_in number (sorts_of messages p.kind.name) 0 p.variables in
      (again_faults rows own ++ pattern_faults messages p ++ at_most 8 number (kind_place p)) ++ patterned (types_bound rows own) (number + 1) ps

  patterned_same : (rows : List Variable) (number : ℕ) (ps : List PatternDecl)
      → Same (patterned rows number ps) (again_faults rows (variables_from messages number ps) ++ numbered_faults 8 kind_place (pattern_faults messages) number ps)
  patterned_same rows number [] = same_equal refl
  patterned_same rows number (p ∷ ps) =
      let own = variables_in number (sorts_of messages p.kind.name) 0 p.variables in
      let more = variables_from messages (number + 1) ps in
      let a = again_faults rows own in
      let b = pattern_faults messages p in
      let c = at_most 8 number (kind_place p) in
      let d = again_faults (types_bound rows own) more in
      let e = numbered_faults 8 kind_place (pattern_faults messages) (number + 1) ps in
      let right : Same ((b ++ c) ++ e) ((b ++ c) ++ e) = same_equal refl in
      same_then (same_joined (same_equal (append_assoc a b c)) (patterned_same (types_bound rows own) (number + 1) ps))
      (same_then (same_cross a (b ++ c) d e) (same_joined (same_equal (sym (again-append rows own more))) right))

patterns_found : (s : Bound) (ps : List PatternDecl) → (fold pattern_after s ps).found ≡ first_of s.found (patterned s.messages s.variables s.number ps)
patterns_found s [] = refl
patterns_found s (p ∷ ps) =
    patterns_found (pattern_after s p) ps
    ∙ sym (first_of-append s.found (again_faults s.variables (pattern_variables s p) ++ pattern_faults s.messages p ++ at_most 8 s.number p.kind.place)
    (patterned s.messages (types_bound s.variables (pattern_variables s p)) (s.number + 1) ps))

patterns_bound : (s : Bound) (ps : List PatternDecl) → (fold pattern_after s ps).variables ≡ types_bound s.variables (variables_from s.messages s.number ps)
patterns_bound s [] = refl
patterns_bound s (p ∷ ps) =
    patterns_bound (pattern_after s p) ps ∙ sym (types_bound-append s.variables (pattern_variables s p) (variables_from s.messages (s.number + 1) ps))

patterns_number : (s : Bound) (ps : List PatternDecl) → (fold pattern_after s ps).number ≡ s.number + length ps
patterns_number s [] = omega arith
patterns_number s (p ∷ ps) = let others = patterns_number (pattern_after s p) ps in omega (arith, others)

pub noted_patterns : (start last : Bound) (rest : List Token) (read : Outcome Token (List PatternDecl)) → start.number ≡ 0 → start.variables ≡ []
    → Noted (λ ps. last ≡ fold pattern_after start ps) rest read
    → Noted (λ ps. (last.number ≡ length ps) × (last.variables ≡ types_bound [] (variables_from start.messages 0 ps))
    × (last.found ≡ first_of start.found (patterns_faults start.messages ps ++ twice_declared slot_place (variables_from start.messages 0 ps)))) rest read
noted_patterns start last rest read none empty noted =
    let ps = noted.phrase in
    let messages = start.messages in
    let all = variables_from messages 0 ps in
    let zero_more : 0 + length ps ≡ length ps = omega arith in
    let number : start.number + length ps ≡ length ps = ap (λ (n : ℕ). n + length ps) none ∙ zero_more in
    let same = same_then (patterned_same messages [] 0 ps)
    (same_then (same_joined (same_equal (again_twice all)) (numbered_same 8 kind_place (pattern_faults messages) ps)) (same_swap (twice_declared slot_place all) (patterns_faults messages ps))) in
    record {
      phrase = ps;
      reads = noted.reads;
      holds = (
        ap (λ (t : Bound). t.number) noted.holds ∙ patterns_number start ps ∙ number,
        ap (λ (t : Bound). t.variables) noted.holds ∙ patterns_bound start ps ∙ (λ i. types_bound (empty i) (variables_from messages (none i) ps)),
        ap (λ (t : Bound). t.found) noted.holds ∙ patterns_found start ps ∙ (λ i. first_of start.found (patterned messages (empty i) (none i) ps)) ∙ same.is start.found,
      );
    }

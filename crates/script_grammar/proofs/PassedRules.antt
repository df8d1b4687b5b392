-- What passing over each rule leaves.
use Rattle.std.proofs.Common.{◌≡◌, ℕ, ℤ, List, [], Option, Ok, Err, refl}
use Rattle.std.specs.Prelude.{if◌then◌else◌}
use Rattle.join_base.specs.declared.message.Relation.{Relation}
use Rattle.join_base.specs.declared.message.Sort.{Sort}
use Rattle.script_tokens.specs.declared.token.Token.{Token}
use Rattle.script_tokens.specs.declared.token.Mark.TheVariants as m
use Rattle.script_grammar.specs.Atoms.{Atom, Atoms, compares, negated, grouped, atoms_of}
use Rattle.script_grammar.specs.Operands as o
use Rattle.script_grammar.specs.declared.operand.OperandDecl.{OperandDecl}
use Rattle.script_grammar.specs.declared.tree.Spelt.{Spelt}
use Rattle.script_grammar.specs.declared.tree.FieldDecl.{FieldDecl}
use Rattle.script_grammar.specs.declared.tree.MessageDecl.{MessageDecl}
use Rattle.script_grammar.specs.declared.tree.PatternDecl.{PatternDecl}
use Rattle.script_grammar.specs.declared.tree.RuleDecl.{RuleDecl}
use Rattle.script_grammar.specs.declared.tree.ActorDecl.{ActorDecl}
use Rattle.script_grammar.specs.declared.tree.ItemDecl.{ItemDecl}
use Rattle.script_grammar.specs.declared.tree.ItemDecl.TheVariants as i
use Rattle.script_grammar.specs.declared.tree.LeafDecl.{LeafDecl}
use Rattle.script_grammar.specs.declared.tree.StatementDecl.{StatementDecl}
use Rattle.script_grammar.specs.declared.tree.StatementDecl.TheVariants as s
use Rattle.script_grammar.specs.Reading.{Outcome, and_then, head, pure, passed, token, repeated, ◌>>=◌, ◌>>◌, ◌<<◌}
use Rattle.script_grammar.specs.Grammar.{variable_of, sort_of, words_of, numeral_of, part_of, sign_of, relation_of}
use Rattle.script_grammar.specs.ScriptReading.{Reads, next_is, is_mark, is_words, is_name, is_sign, begins_item, begins_statement, mark_read, name_read, with_first, further, separated_read, listed_read, field_read, message_read, pattern_read, window_read, leaf_of, further_read, first_read, term_of, term_read, operand_read, compare_read, not_read, group_read, atom_read, conjunct_read, guard_read, item_read, print_read, post_read, reply_read, statement_read, definition_read, actor_read}
use Rattle.script_grammar.specs.Outlines.{named}
use Rattle.script_grammar.proofs.PassedLemmas.{Passes, passes_itself, passes_skip, passes_both, passes_two, passes_keep, passes_made, passes_choice}

-- ---- messages and patterns

pub field_passed : (ts : List Token)
    → passed (field_read ts) ≡ and_then (name_read ts) (λ _ us. and_then (mark_read m.Colon us) (λ _ vs. passed (token sort_of vs)))
unfolding field_read
field_passed ts =
    let make : Spelt × Sort → FieldDecl = λ p. record { name = p.0; sort = p.1 } in
    (passes_made make (passes_both name_read (passes_skip (mark_read m.Colon) (passes_itself (token sort_of))))).is ts

pub message_passed : (ts : List Token)
    → passed (message_read ts)
    ≡ and_then (mark_read m.Message ts) (λ _ us. and_then (name_read us) (λ _ vs. and_then (mark_read m.Open vs) (λ _ ws.
    and_then (passed (listed_read m.Comma field_read ws)) (λ _ xs. passed (mark_read m.Close xs)))))
unfolding message_read
message_passed ts =
    let make : Spelt × List FieldDecl → MessageDecl = λ p. record { name = p.0; fields = p.1 } in
    (passes_made make (passes_skip (mark_read m.Message) (passes_both name_read (passes_skip (mark_read m.Open)
    (passes_keep (passes_itself (listed_read m.Comma field_read)) (mark_read m.Close)))))).is ts

pub pattern_passed : (ts : List Token)
    → passed (pattern_read ts)
    ≡ and_then (name_read ts) (λ _ us. and_then (mark_read m.Open us) (λ _ vs.
    and_then (passed (listed_read m.Comma (token variable_of) vs)) (λ _ ws. passed (mark_read m.Close ws))))
unfolding pattern_read
pattern_passed ts =
    let make : Spelt × List (ℕ × Option (List ℕ)) → PatternDecl = λ p. record { kind = p.0; variables = p.1 } in
    (passes_made make (passes_both name_read (passes_skip (mark_read m.Open)
    (passes_keep (passes_itself (listed_read m.Comma (token variable_of))) (mark_read m.Close))))).is ts

-- ---- terms and operands

pub leaf_passed : (ts : List Token) → passed (further_read ts) ≡ and_then (token sign_of ts) (λ _ us. passed (token part_of us))
unfolding further_read
leaf_passed ts = (passes_made leaf_of (passes_both (token sign_of) (passes_itself (token part_of)))).is ts

pub term_passed : (ts : List Token)
    → passed (term_read ts) ≡ and_then (first_read ts) (λ _ us. passed (repeated (next_is is_sign) further_read us))
unfolding term_read
term_passed ts = (passes_made term_of (passes_both first_read (passes_itself (repeated (next_is is_sign) further_read)))).is ts

pub operand_passed : (ts : List Token)
    → passed (operand_read ts) ≡ (if next_is is_words (head ts) then passed (token words_of ts) else passed (term_read ts))
unfolding operand_read
operand_passed ts =
    let fixed : ℕ × List ℕ → OperandDecl = λ p. o.Fixed p.0 p.1 in
    let sum : ℕ × List LeafDecl → OperandDecl = λ p. o.Sum p.0 p.1 in
    (passes_choice (next_is is_words) (passes_made fixed (passes_itself (token words_of))) (passes_made sum (passes_itself term_read))).is ts

-- ---- atoms and guards

pub compare_passed : (ts : List Token)
    → passed (compare_read ts)
    ≡ and_then (passed (operand_read ts)) (λ _ us. and_then (token relation_of us) (λ _ vs. passed (operand_read vs)))
unfolding compare_read
compare_passed ts =
    let make : OperandDecl × (Relation × OperandDecl) → Atom = λ p. compares p.0 p.1.0 p.1.1 in
    (passes_made make (passes_two (passes_itself operand_read) (passes_both (token relation_of) (passes_itself operand_read)))).is ts

pub not_passed : (inner : Reads Atom) (ts : List Token)
    → passed (not_read inner ts) ≡ and_then (mark_read m.Not ts) (λ _ us. passed (inner us))
not_passed inner ts = (passes_made negated (passes_skip (mark_read m.Not) (passes_itself inner))).is ts

pub group_passed : (inner : Reads Atom) (ts : List Token)
    → passed (group_read inner ts)
    ≡ and_then (mark_read m.Open ts) (λ _ us. and_then (passed (separated_read m.Or inner us)) (λ _ vs. passed (mark_read m.Close vs)))
group_passed inner ts =
    let make : List Atom → Atom = λ atoms. grouped (atoms_of atoms) in
    (passes_made make (passes_skip (mark_read m.Open) (passes_keep (passes_itself (separated_read m.Or inner)) (mark_read m.Close)))).is ts

pub conjunct_passed : (ts : List Token) → passed (conjunct_read ts) ≡ passed (separated_read m.Or (atom_read 32) ts)
unfolding conjunct_read
conjunct_passed ts = (passes_made atoms_of (passes_itself (separated_read m.Or (atom_read 32)))).is ts

none_passed : {X : Type 0} → Passes (pure tt) (pure (let none : List X = [] in none))
none_passed = record { is = λ ts. refl }

pub guard_passed : (ts : List Token)
    → passed (guard_read ts)
    ≡ (if is_mark m.If (head ts)
    then and_then (mark_read m.If ts) (λ _ us. and_then (passed (conjunct_read us)) (λ _ vs. passed (further m.And conjunct_read vs)))
    else Ok (tt, ts))
unfolding guard_read
guard_passed ts =
    (passes_choice (is_mark m.If)
    (passes_skip (mark_read m.If) (passes_made with_first (passes_two (passes_itself conjunct_read) (passes_itself (further m.And conjunct_read)))))
    none_passed).is ts

-- ---- statements

pub item_passed : (ts : List Token)
    → passed (item_read ts)
    ≡ (if next_is is_words (head ts) then passed (token words_of ts)
    else if next_is is_name (head ts) then passed (name_read ts)
    else and_then (mark_read m.Open ts) (λ _ us. and_then (passed (term_read us)) (λ _ vs. passed (mark_read m.Close vs))))
unfolding item_read
item_passed ts =
    let fixed : ℕ × List ℕ → ItemDecl = λ p. i.Fixed p.0 p.1 in
    let sum : ℕ × (ℕ × List LeafDecl) → ItemDecl = λ p. i.Sum p.0 p.1.1 in
    (passes_choice (next_is is_words) (passes_made fixed (passes_itself (token words_of)))
    (passes_choice (next_is is_name) (passes_made i.Named (passes_itself name_read))
    (passes_made sum (passes_both (mark_read m.Open) (passes_keep (passes_itself term_read) (mark_read m.Close)))))).is ts

pub print_passed : (ts : List Token)
    → passed (print_read ts)
    ≡ and_then (mark_read m.Print ts) (λ _ us.
    and_then (and_then (passed (item_read us)) (λ _ vs. passed (repeated (next_is begins_item) item_read vs))) (λ _ ws. passed (mark_read m.Semicolon ws)))
unfolding print_read
print_passed ts =
    let make : ℕ × List ItemDecl → StatementDecl = λ p. s.Print p.0 p.1 in
    (passes_made make (passes_both (mark_read m.Print)
    (passes_keep (passes_made with_first (passes_two (passes_itself item_read) (passes_itself (repeated (next_is begins_item) item_read)))) (mark_read m.Semicolon)))).is ts

pub post_passed : (ts : List Token)
    → passed (post_read ts)
    ≡ and_then (mark_read m.Post ts) (λ _ us. and_then (name_read us) (λ _ vs. and_then (name_read vs) (λ _ ws. and_then (mark_read m.Open ws) (λ _ xs.
    and_then (passed (listed_read m.Comma operand_read xs)) (λ _ ys. passed ((mark_read m.Close >> mark_read m.Semicolon) ys))))))
unfolding post_read
post_passed ts =
    let make : ℕ × (Spelt × (Spelt × List OperandDecl)) → StatementDecl = λ p. s.Post p.0 p.1.0 p.1.1.0 p.1.1.1 in
    (passes_made make (passes_both (mark_read m.Post) (passes_both name_read (passes_both name_read (passes_skip (mark_read m.Open)
    (passes_keep (passes_itself (listed_read m.Comma operand_read)) (mark_read m.Close >> mark_read m.Semicolon))))))).is ts

pub reply_passed : (ts : List Token)
    → passed (reply_read ts)
    ≡ and_then (mark_read m.Reply ts) (λ _ us. and_then (token numeral_of us) (λ _ vs.
    and_then (passed (operand_read vs)) (λ _ ws. passed (mark_read m.Semicolon ws))))
unfolding reply_read
reply_passed ts =
    let make : ℕ × ((ℕ × ℤ) × OperandDecl) → StatementDecl = λ p. s.Reply p.0 p.1.0.0 p.1.0.1 p.1.1 in
    (passes_made make (passes_both (mark_read m.Reply) (passes_both (token numeral_of) (passes_keep (passes_itself operand_read) (mark_read m.Semicolon))))).is ts

-- ---- definitions and actors

pub definition_passed : (ts : List Token)
    → passed (definition_read ts)
    ≡ and_then (mark_read m.When ts) (λ _ us. and_then (passed (separated_read m.With pattern_read us)) (λ _ vs. and_then (window_read vs) (λ _ ws.
    and_then (passed (guard_read ws)) (λ _ xs. and_then (mark_read m.OpenBrace xs) (λ _ ys.
    and_then (passed (repeated (next_is begins_statement) statement_read ys)) (λ _ zs. passed (mark_read m.CloseBrace zs)))))))
unfolding definition_read
definition_passed ts =
    let make : ℕ × (List PatternDecl × (Option (ℕ × ℤ) × (List Atoms × List StatementDecl))) → RuleDecl =
    λ p. record { place = p.0; patterns = p.1.0; window = p.1.1.0; guard = p.1.1.1.0; body = p.1.1.1.1 } in
    (passes_made make (passes_both (mark_read m.When) (passes_two (passes_itself (separated_read m.With pattern_read)) (passes_both window_read
    (passes_two (passes_itself guard_read) (passes_skip (mark_read m.OpenBrace)
    (passes_keep (passes_itself (repeated (next_is begins_statement) statement_read)) (mark_read m.CloseBrace)))))))).is ts

-- the name of an actor, whose definitions are passed over
abbrev actor_of : Spelt × List RuleDecl → ActorDecl
actor_of p = record { name = p.0; rules = p.1 }

abbrev rules_read : Reads (List RuleDecl)
rules_read = repeated (is_mark m.When) definition_read

abbrev named_with : Spelt → Outcome Token (List RuleDecl) → Outcome Token Spelt
named_with name read = named (and_then (and_then {B = Spelt × List RuleDecl} read (λ rules. pure (name, rules))) (λ p. pure (actor_of p)))

close_by : (name : Spelt) (rules : List RuleDecl) (x : Outcome Token ℕ) → named_with name (and_then x (λ _. pure rules)) ≡ and_then x (λ _. pure name)
close_by name rules (Ok p) = refl
close_by name rules (Err e) = refl

rules_by : (name : Spelt) (x : Outcome Token (List RuleDecl))
    → named_with name (and_then x (λ rules. mark_read m.CloseBrace >>= λ _. pure rules)) ≡ and_then (passed x) (λ _ ts. and_then (mark_read m.CloseBrace ts) (λ _. pure name))
rules_by name (Ok p) = close_by name p.0 (mark_read m.CloseBrace p.1)
rules_by name (Err e) = refl

open_by : (name : Spelt) (x : Outcome Token ℕ)
    → named_with name (and_then x (λ _. rules_read << mark_read m.CloseBrace))
    ≡ and_then x (λ _ ts. and_then (passed (rules_read ts)) (λ _ us. and_then (mark_read m.CloseBrace us) (λ _. pure name)))
open_by name (Ok p) = rules_by name (rules_read p.1)
open_by name (Err e) = refl

abbrev name_and_rules : Outcome Token Spelt → Outcome Token (Spelt × List RuleDecl)
name_and_rules x = and_then x (λ name. (mark_read m.OpenBrace >> (rules_read << mark_read m.CloseBrace)) >>= λ rules. pure (name, rules))

name_by : (x : Outcome Token Spelt)
    → named (and_then (name_and_rules x) (λ p. pure (actor_of p)))
    ≡ and_then x (λ name ts. and_then (mark_read m.OpenBrace ts) (λ _ us. and_then (passed (rules_read us)) (λ _ vs. and_then (mark_read m.CloseBrace vs) (λ _. pure name))))
name_by (Ok p) = open_by p.0 (mark_read m.OpenBrace p.1)
name_by (Err e) = refl

actor_by : (x : Outcome Token ℕ)
    → named (and_then (and_then x (λ _ ts. name_and_rules (name_read ts))) (λ p. pure (actor_of p)))
    ≡ and_then x (λ _ ts. and_then (name_read ts) (λ name us. and_then (mark_read m.OpenBrace us) (λ _ vs. and_then (passed (rules_read vs)) (λ _ ws.
    and_then (mark_read m.CloseBrace ws) (λ _. pure name)))))
actor_by (Ok p) = name_by (name_read p.1)
actor_by (Err e) = refl

pub actor_named : (ts : List Token)
    → named (actor_read ts)
    ≡ and_then (mark_read m.Actor ts) (λ _ us. and_then (name_read us) (λ name vs. and_then (mark_read m.OpenBrace vs) (λ _ ws.
    and_then (passed (repeated (is_mark m.When) definition_read ws)) (λ _ xs. and_then (mark_read m.CloseBrace xs) (λ _. pure name)))))
unfolding actor_read
actor_named ts = actor_by (mark_read m.Actor ts)

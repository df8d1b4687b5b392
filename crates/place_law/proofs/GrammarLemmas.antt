-- Each rule of the grammar holds at other places, of a part that differs in places alone.
use Rattle.std.proofs.Common.{inl, inr, ◌≡◌, ◌∙◌, ℕ, ℤ, zero, suc, ◌<◌, Bool, true, false, cond, List, [], ◌∷◌, Option, Some, None, map, length, refl, sym, ap, subst, arith}
use Rattle.std.specs.Option.{option_map}
use Rattle.std.proofs.lemmas.List.{length-map}
use Rattle.join_base.specs.declared.message.Relation.{Relation}
use Rattle.join_base.specs.declared.message.Sort.{Sort}
use Rattle.script_tokens.specs.Marks.{kind_is}
use Rattle.script_tokens.specs.declared.token.Kind.TheVariants as kind
use Rattle.script_tokens.specs.declared.token.Mark.{Mark}
use Rattle.script_tokens.specs.declared.token.Mark.TheVariants as m
use Rattle.script_grammar.specs.Phrases.{one, some, separated}
use Rattle.script_grammar.specs.Atoms.{Atom, Atoms, compares, negated, grouped, no_atoms, either, listed_atoms, atoms_of}
use Rattle.script_grammar.specs.Grammar.{Tokens, place_of, name_of, variable_of, sort_of, words_of, numeral_of, part_of, sign_of, relation_of, mark_at, mark, name, field, message, pattern, first_leaf, further_leaf, term, operand, atom, conjunct, window, guard, item, statement, definition, actor, Declaration, declaration, messages_of, actors_of, tree_of, IsScript}
use Rattle.script_grammar.specs.declared.tree.Spelt.{Spelt}
use Rattle.script_grammar.specs.declared.tree.FieldDecl.{FieldDecl}
use Rattle.script_grammar.specs.declared.tree.MessageDecl.{MessageDecl}
use Rattle.script_grammar.specs.declared.tree.PatternDecl.{PatternDecl}
use Rattle.script_grammar.specs.declared.tree.Part.{Part}
use Rattle.script_grammar.specs.declared.tree.LeafDecl.{LeafDecl}
use Rattle.script_grammar.specs.declared.operand.OperandDecl.{OperandDecl}
use Rattle.script_grammar.specs.Operands as o
use Rattle.script_grammar.specs.declared.tree.ItemDecl.{ItemDecl}
use Rattle.script_grammar.specs.declared.tree.ItemDecl.TheVariants as i
use Rattle.script_grammar.specs.declared.tree.StatementDecl.{StatementDecl}
use Rattle.script_grammar.specs.declared.tree.StatementDecl.TheVariants as s
use Rattle.script_grammar.specs.declared.tree.RuleDecl.{RuleDecl}
use Rattle.script_grammar.specs.declared.tree.ActorDecl.{ActorDecl}
use Rattle.script_grammar.specs.declared.tree.Tree.{Tree}
use Rattle.script_grammar.proofs.AtomLemmas.{listed_atoms-atoms_of}
use Rattle.place_law.proofs.Bare.{bare_place, bare_pair, bare_spelt, bare_field, bare_message, bare_pattern, bare_leaf, bare_operand, bare_atom, bare_atoms, bare_item, bare_statement, bare_window, bare_rule, bare_actor, bare_declaration, bare_tree}
use Rattle.place_law.proofs.MovedLemmas.{AreMoved, Moved, Moves, Stays, SeesKind, moved_none, moved_nothing, image, stays-some, stays-then, moves-one, moves-both, behind, before, moves-behind, moves-before, as_list, moves-each, moves-at_least_one, moves-separated, moves-listed}

-- ---- what a token gives

abbrev itself : {X : Type 0} → X → X
itself x = x

same_place : (found : Bool) (place other : ℕ) → option_map bare_place (cond found (Some place) None) ≡ option_map bare_place (cond found (Some other) None)
same_place true place other = refl
same_place false place other = refl

moves-place : (a : Mark) → Moves bare_place (mark_at a)
moves-place a = moves-one bare_place (place_of a) (λ place other k. same_place (kind_is a k) place other)

stays-mark : (a : Mark) → Stays (mark a)
stays-mark a = stays-some (moves-place a)

-- what stands behind a mark, and in front of one
after : {X Y : Type 0} {f : X → Y} {rule : X → Tokens → Type 0} (a : Mark) → Moves f rule → Moves f (behind (mark a) rule)
after a r = moves-behind (stays-mark a) r

until : {X Y : Type 0} {f : X → Y} {rule : X → Tokens → Type 0} (a : Mark) → Moves f rule → Moves f (before rule (mark a))
until a r = moves-before r (stays-mark a)

sees-name : SeesKind bare_spelt name_of
sees-name place other (kind.Name n) = refl
sees-name place other _ = refl

moves-name : Moves bare_spelt name
moves-name = moves-one bare_spelt name_of sees-name

sees-variable : SeesKind bare_pair variable_of
sees-variable place other (kind.Name n) = refl
sees-variable place other (kind.Mark m.Blank) = refl
sees-variable place other (kind.Mark _) = refl
sees-variable place other _ = refl

sees-words : SeesKind bare_pair words_of
sees-words place other (kind.Words text) = refl
sees-words place other _ = refl

moves-words : Moves bare_pair (one words_of)
moves-words = moves-one bare_pair words_of sees-words

sees-numeral : SeesKind bare_pair numeral_of
sees-numeral place other (kind.Number n) = refl
sees-numeral place other _ = refl

moves-numeral : Moves bare_pair (one numeral_of)
moves-numeral = moves-one bare_pair numeral_of sees-numeral

sees-part : SeesKind bare_pair part_of
sees-part place other (kind.Number n) = refl
sees-part place other (kind.Name n) = refl
sees-part place other _ = refl

moves-part : Moves bare_pair (one part_of)
moves-part = moves-one bare_pair part_of sees-part

-- ---- messages and patterns

abbrev field_with : Spelt × Sort → FieldDecl
field_with p = record { name = p.0; sort = p.1 }

moves-field : Moves bare_field field
moves-field = record {
  move = λ f tokens moved is h.
      let parts = moves-both moves-name (after m.Colon (moves-one itself sort_of (λ place other k. refl))) in
      image bare_field field field_with (λ q same. ap field_with same) (λ q k. k) (parts.move (f.name, f.sort) tokens moved is h);
}

abbrev message_with : Spelt × List FieldDecl → MessageDecl
message_with p = record { name = p.0; fields = p.1 }

moves-message : Moves bare_message message
moves-message = record {
  move = λ d tokens moved is h.
      let parts = after m.Message (moves-both moves-name (after m.Open (until m.Close (moves-listed bare_field (stays-mark m.Comma) moves-field)))) in
      image bare_message message message_with (λ q same. ap message_with same) (λ q k. k) (parts.move (d.name, d.fields) tokens moved is h);
}

abbrev pattern_with : Spelt × List (ℕ × Option (List ℕ)) → PatternDecl
pattern_with p = record { kind = p.0; variables = p.1 }

moves-pattern : Moves bare_pattern pattern
moves-pattern = record {
  move = λ d tokens moved is h.
      let parts = moves-both moves-name (after m.Open (until m.Close (moves-listed bare_pair (stays-mark m.Comma) (moves-one bare_pair variable_of sees-variable)))) in
      image bare_pattern pattern pattern_with (λ q same. ap pattern_with same) (λ q k. k) (parts.move (d.kind, d.variables) tokens moved is h);
}

-- ---- terms and operands

abbrev leaf_with : Bool × (ℕ × Part) → LeafDecl
leaf_with p = record { place = p.1.0; minus = p.0; part = p.1.1 }

moves-further : Moves bare_leaf further_leaf
moves-further = record {
  move = λ leaf tokens moved is h.
      let parts = moves-both (moves-one itself sign_of (λ place other k. refl)) moves-part in
      image bare_leaf further_leaf leaf_with (λ q same. ap leaf_with same) (λ q k. k) (parts.move (leaf.minus, (leaf.place, leaf.part)) tokens moved is h);
}

-- the first leaf of a term, and a term, with the place where it begins
abbrev first_rule : ℕ × LeafDecl → Tokens → Type 0
first_rule p = first_leaf p.0 p.1

abbrev bare_first : ℕ × LeafDecl → LeafDecl
bare_first p = bare_leaf p.1

leaf_alike : (minus other : Bool) (pair same : ℕ × Part) → minus ≡ other → bare_pair pair ≡ bare_pair same → bare_leaf (leaf_with (minus, pair)) ≡ bare_leaf (leaf_with (other, same))
leaf_alike minus other pair same e is = ap (λ (b : Bool). leaf_with (b, bare_pair pair)) e ∙ ap (λ (p : ℕ × Part). leaf_with (other, p)) is

first_moved : (place : ℕ) (leaf : LeafDecl) (tokens moved : Tokens) → AreMoved tokens moved → first_leaf place leaf tokens → Moved bare_first first_rule (place, leaf) moved
first_moved place leaf tokens moved is (inl h) =
    let k = moves-part.move (leaf.place, leaf.part) tokens moved is h.2 in
    record {
      value = (k.value.0, leaf_with (false, k.value));
      alike = leaf_alike false leaf.minus k.value (leaf.place, leaf.part) (sym h.0) k.alike;
      spelt = inl (refl, refl, k.spelt);
    }
first_moved place leaf tokens moved is (inr h) =
    let parts = moves-both (moves-place m.Minus) moves-part in
    let k = parts.move (place, (leaf.place, leaf.part)) tokens moved is h.1 in
    record {
      value = (k.value.0, leaf_with (true, k.value.1));
      alike = leaf_alike true leaf.minus k.value.1 (leaf.place, leaf.part) (sym h.0) (ap (λ (p : ℕ × (ℕ × Part)). p.1) k.alike);
      spelt = inr (refl, k.spelt);
    }

moves-first : Moves bare_first first_rule
moves-first = record { move = λ p tokens moved is h. first_moved p.0 p.1 tokens moved is h }

abbrev term_rule : ℕ × List LeafDecl → Tokens → Type 0
term_rule p = term p.0 p.1

abbrev bare_term : ℕ × List LeafDecl → List LeafDecl
bare_term p = map bare_leaf p.1

abbrev term_with : (ℕ × LeafDecl) × List LeafDecl → ℕ × List LeafDecl
term_with p = (p.0.0, p.0.1 ∷ p.1)

term_moved : (place : ℕ) (leaves : List LeafDecl) (tokens moved : Tokens) → AreMoved tokens moved → term place leaves tokens → Moved bare_term term_rule (place, leaves) moved
term_moved place [] tokens moved is h = absurd h
term_moved place (leaf ∷ leaves) tokens moved is h =
    let parts = moves-both moves-first (moves-each bare_leaf moves-further) in
    image bare_term term_rule term_with (λ q same. ap as_list same) (λ q k. k) (parts.move ((place, leaf), leaves) tokens moved is h)

moves-term : Moves bare_term term_rule
moves-term = record { move = λ p tokens moved is h. term_moved p.0 p.1 tokens moved is h }

abbrev fixed_operand : ℕ × List ℕ → OperandDecl
fixed_operand p = o.Fixed p.0 p.1

abbrev sum_operand : ℕ × List LeafDecl → OperandDecl
sum_operand p = o.Sum p.0 p.1

operand_moved : (x : OperandDecl) (tokens moved : Tokens) → AreMoved tokens moved → operand x tokens → Moved bare_operand operand x moved
operand_moved (o.Fixed place words) tokens moved is h =
    image bare_operand operand fixed_operand (λ q same. ap fixed_operand same) (λ q k. k) (moves-words.move (place, words) tokens moved is h)
operand_moved (o.Sum place leaves) tokens moved is h =
    image bare_operand operand sum_operand (λ q same. ap (o.Sum 0) same) (λ q k. k) (moves-term.move (place, leaves) tokens moved is h)

moves-operand : Moves bare_operand operand
moves-operand = record { move = operand_moved }

-- ---- atoms, conjuncts and guards

bare-atoms_of : (list : List Atom) → bare_atoms (atoms_of list) ≡ atoms_of (map bare_atom list)
bare-atoms_of [] = refl
bare-atoms_of (a ∷ list) = ap (either (bare_atom a)) (bare-atoms_of list)

bare-listed : (atoms : Atoms) → bare_atoms atoms ≡ atoms_of (map bare_atom (listed_atoms atoms))
bare-listed no_atoms = refl
bare-listed (either a atoms) = ap (either (bare_atom a)) (bare-listed atoms)

-- a rule of a conjunct's list of atoms
from_list : (rule : List Atom → Tokens → Type 0) (atoms : Atoms) (moved : Tokens) → Moved (map bare_atom) rule (listed_atoms atoms) moved → Moved bare_atoms (λ (as' : Atoms). rule (listed_atoms as')) atoms moved
from_list rule atoms moved k = record {
  value = atoms_of k.value;
  alike = bare-atoms_of k.value ∙ ap atoms_of k.alike ∙ sym (bare-listed atoms);
  spelt = subst (λ (list : List Atom). rule list moved) (sym (listed_atoms-atoms_of k.value)) k.spelt;
}

abbrev compares_with : OperandDecl × (Relation × OperandDecl) → Atom
compares_with p = compares p.0 p.1.0 p.1.1

compares_moved : (depth : ℕ) (left : OperandDecl) (relation : Relation) (right : OperandDecl) (tokens moved : Tokens) → AreMoved tokens moved → atom depth (compares left relation right) tokens
    → Moved bare_atom (atom depth) (compares left relation right) moved
compares_moved depth left relation right tokens moved is h =
    let parts = moves-both moves-operand (moves-both (moves-one itself relation_of (λ place other k. refl)) moves-operand) in
    image bare_atom (atom depth) compares_with (λ q same. ap compares_with same) (λ q k. k) (parts.move (left, (relation, right)) tokens moved is h)

atom_moved : (depth : ℕ) (a : Atom) (tokens moved : Tokens) → AreMoved tokens moved → atom depth a tokens → Moved bare_atom (atom depth) a moved
atom_moved zero (compares left relation right) tokens moved is h = compares_moved zero left relation right tokens moved is h
atom_moved zero (negated a) tokens moved is h = absurd h
atom_moved zero (grouped atoms) tokens moved is h = absurd h
atom_moved (suc depth) (compares left relation right) tokens moved is h = compares_moved (suc depth) left relation right tokens moved is h
atom_moved (suc depth) (negated a) tokens moved is h =
    let inner : Moves bare_atom (atom depth) = record { move = atom_moved depth } in
    image bare_atom (atom (suc depth)) negated (λ q same. ap negated same) (λ q k. k) ((after m.Not inner).move a tokens moved is h)
atom_moved (suc depth) (grouped atoms) tokens moved is h =
    let inner : Moves bare_atom (atom depth) = record { move = atom_moved depth } in
    let list : List Atom → Tokens → Type 0 = behind (mark m.Open) (before (separated (mark m.Or) (atom depth)) (mark m.Close)) in
    image bare_atom (atom (suc depth)) grouped (λ q same. ap grouped same) (λ q k. k)
    (from_list list atoms moved ((after m.Open (until m.Close (moves-separated bare_atom (stays-mark m.Or) inner))).move (listed_atoms atoms) tokens moved is h))

conjunct_moved : (c : Atoms) (tokens moved : Tokens) → AreMoved tokens moved → conjunct c tokens → Moved bare_atoms conjunct c moved
conjunct_moved c tokens moved is h =
    let inner : Moves bare_atom (atom 32) = record { move = atom_moved 32 } in
    from_list (separated (mark m.Or) (atom 32)) c moved ((moves-separated bare_atom (stays-mark m.Or) inner).move (listed_atoms c) tokens moved is h)

moves-conjunct : Moves bare_atoms conjunct
moves-conjunct = record { move = conjunct_moved }

to_guard : (cs : List Atoms) (tokens : Tokens) → behind (mark m.If) (separated (mark m.And) conjunct) cs tokens → guard cs tokens
to_guard [] tokens h = absurd h.other
to_guard (c ∷ cs) tokens h = h

guard_moved : (cs : List Atoms) (tokens moved : Tokens) → AreMoved tokens moved → guard cs tokens → Moved (map bare_atoms) guard cs moved
guard_moved [] tokens moved is h = moved_nothing bare_atoms guard moved (moved_none moved (subst (λ (ts : Tokens). AreMoved ts moved) h is))
guard_moved (c ∷ cs) tokens moved is h =
    image (map bare_atoms) guard itself (λ q same. same) (λ q k. to_guard q moved k)
    ((after m.If (moves-separated bare_atoms (stays-mark m.And) moves-conjunct)).move (c ∷ cs) tokens moved is h)

moves-guard : Moves (map bare_atoms) guard
moves-guard = record { move = guard_moved }

-- ---- bodies

-- a term in parentheses, wherever it begins
abbrev inner_rule : List LeafDecl → Tokens → Type 0
inner_rule leaves = some (λ (inner : ℕ). term inner leaves)

moves-inner : Moves (map bare_leaf) inner_rule
moves-inner = record {
  move = λ leaves tokens moved is h. let k = term_moved h.0 leaves tokens moved is h.1 in record { value = k.value.1; alike = k.alike; spelt = (k.value.0, k.spelt) };
}

abbrev fixed_item : ℕ × List ℕ → ItemDecl
fixed_item p = i.Fixed p.0 p.1

abbrev sum_item : ℕ × List LeafDecl → ItemDecl
sum_item p = i.Sum p.0 p.1

item_moved : (x : ItemDecl) (tokens moved : Tokens) → AreMoved tokens moved → item x tokens → Moved bare_item item x moved
item_moved (i.Fixed place words) tokens moved is h = image bare_item item fixed_item (λ q same. ap fixed_item same) (λ q k. k) (moves-words.move (place, words) tokens moved is h)
item_moved (i.Named spelt) tokens moved is h = image bare_item item i.Named (λ q same. ap i.Named same) (λ q k. k) (moves-name.move spelt tokens moved is h)
item_moved (i.Sum place leaves) tokens moved is h =
    let parts = moves-both (moves-place m.Open) (until m.Close moves-inner) in
    image bare_item item sum_item (λ q same. ap sum_item same) (λ q k. k) (parts.move (place, leaves) tokens moved is h)

moves-item : Moves bare_item item
moves-item = record { move = item_moved }

abbrev print_with : ℕ × List ItemDecl → StatementDecl
print_with p = s.Print p.0 p.1

abbrev post_with : ℕ × (Spelt × (Spelt × List OperandDecl)) → StatementDecl
post_with p = s.Post p.0 p.1.0 p.1.1.0 p.1.1.1

abbrev reply_with : ℕ × ((ℕ × ℤ) × OperandDecl) → StatementDecl
reply_with p = s.Reply p.0 p.1.0.0 p.1.0.1 p.1.1

statement_moved : (x : StatementDecl) (tokens moved : Tokens) → AreMoved tokens moved → statement x tokens → Moved bare_statement statement x moved
statement_moved (s.Print place items) tokens moved is h =
    let parts = moves-both (moves-place m.Print) (until m.Semicolon (moves-at_least_one bare_item moves-item)) in
    image bare_statement statement print_with (λ q same. ap print_with same) (λ q k. k) (parts.move (place, items) tokens moved is h)
statement_moved (s.Post place target kind operands) tokens moved is h =
    let list = moves-before (moves-listed bare_operand (stays-mark m.Comma) moves-operand) (stays-then (stays-mark m.Close) (stays-mark m.Semicolon)) in
    let parts = moves-both (moves-place m.Post) (moves-both moves-name (moves-both moves-name (after m.Open list))) in
    image bare_statement statement post_with (λ q same. ap post_with same) (λ q k. k) (parts.move (place, (target, (kind, operands))) tokens moved is h)
statement_moved (s.Stop place) tokens moved is h =
    image bare_statement statement s.Stop (λ q same. ap s.Stop same) (λ q k. k) ((until m.Semicolon (moves-place m.Stop)).move place tokens moved is h)
statement_moved (s.Reply place number_place number value) tokens moved is h =
    let parts = moves-both (moves-place m.Reply) (moves-both moves-numeral (until m.Semicolon moves-operand)) in
    image bare_statement statement reply_with (λ q same. ap reply_with same) (λ q k. k) (parts.move (place, ((number_place, number), value)) tokens moved is h)

moves-statement : Moves bare_statement statement
moves-statement = record { move = statement_moved }

-- ---- definitions, actors and scripts

abbrev Numeral : Type 0
Numeral = ℕ × ℤ

window_moved : (w : Option Numeral) (tokens moved : Tokens) → AreMoved tokens moved → window w tokens → Moved bare_window window w moved
window_moved None tokens moved is h = record { value = None; alike = refl; spelt = moved_none moved (subst (λ (ts : Tokens). AreMoved ts moved) h is) }
window_moved (Some n) tokens moved is h =
    image bare_window window (λ (q : Numeral). Some q) (λ q same. ap (λ (pair : Numeral). Some pair) same) (λ q k. k) ((after m.Within moves-numeral).move n tokens moved is h)

moves-window : Moves bare_window window
moves-window = record { move = window_moved }

abbrev rule_with : ℕ × (List PatternDecl × (Option Numeral × (List Atoms × List StatementDecl))) → RuleDecl
rule_with p = record { place = p.0; patterns = p.1.0; window = p.1.1.0; guard = p.1.1.1.0; body = p.1.1.1.1 }

moves-definition : Moves bare_rule definition
moves-definition = record {
  move = λ r tokens moved is h.
      let body = after m.OpenBrace (until m.CloseBrace (moves-each bare_statement moves-statement)) in
      let parts = moves-both (moves-place m.When) (moves-both (moves-separated bare_pattern (stays-mark m.With) moves-pattern) (moves-both moves-window (moves-both moves-guard body))) in
      image bare_rule definition rule_with (λ q same. ap rule_with same) (λ q k. k) (parts.move (r.place, (r.patterns, (r.window, (r.guard, r.body)))) tokens moved is h);
}

abbrev actor_with : Spelt × List RuleDecl → ActorDecl
actor_with p = record { name = p.0; rules = p.1 }

moves-actor : Moves bare_actor actor
moves-actor = record {
  move = λ a tokens moved is h.
      let parts = after m.Actor (moves-both moves-name (after m.OpenBrace (until m.CloseBrace (moves-each bare_rule moves-definition)))) in
      image bare_actor actor actor_with (λ q same. ap actor_with same) (λ q k. k) (parts.move (a.name, a.rules) tokens moved is h);
}

declaration_moved : (d : Declaration) (tokens moved : Tokens) → AreMoved tokens moved → declaration d tokens → Moved bare_declaration declaration d moved
declaration_moved (inl d) tokens moved is h = image bare_declaration declaration inl (λ q same. ap inl same) (λ q k. k) (moves-message.move d tokens moved is h)
declaration_moved (inr a) tokens moved is h = image bare_declaration declaration inr (λ q same. ap inr same) (λ q k. k) (moves-actor.move a tokens moved is h)

moves-declaration : Moves bare_declaration declaration
moves-declaration = record { move = declaration_moved }

bare-messages_of : (ds : List Declaration) → map bare_message (messages_of ds) ≡ messages_of (map bare_declaration ds)
bare-messages_of [] = refl
bare-messages_of (inl d ∷ ds) = ap (λ (ms : List MessageDecl). bare_message d ∷ ms) (bare-messages_of ds)
bare-messages_of (inr a ∷ ds) = bare-messages_of ds

bare-actors_of : (ds : List Declaration) → map bare_actor (actors_of ds) ≡ actors_of (map bare_declaration ds)
bare-actors_of [] = refl
bare-actors_of (inl d ∷ ds) = bare-actors_of ds
bare-actors_of (inr a ∷ ds) = ap (λ (actors : List ActorDecl). bare_actor a ∷ actors) (bare-actors_of ds)

bare-tree_of : (ds : List Declaration) → bare_tree (tree_of ds) ≡ tree_of (map bare_declaration ds)
bare-tree_of ds =
    ap (λ (ms : List MessageDecl). let t : Tree = record { messages = ms; actors = map bare_actor (actors_of ds) } in t) (bare-messages_of ds)
    ∙ ap (λ (actors : List ActorDecl). let t : Tree = record { messages = messages_of (map bare_declaration ds); actors = actors } in t) (bare-actors_of ds)

-- trees that differ in places alone have as many actors
has_actor : (tree other : Tree) → bare_tree other ≡ bare_tree tree → 0 < length tree.actors → 0 < length other.actors
has_actor tree other same some =
    let count : length (map bare_actor other.actors) ≡ length (map bare_actor tree.actors) = ap (λ (t : Tree). length t.actors) same in
    omega (arith, length-map other.actors bare_actor, length-map tree.actors bare_actor)

-- a script at other places is a script, with a tree that differs in places alone
pub moves-script : Moves bare_tree IsScript
moves-script = record {
  move = λ tree tokens moved is h.
      let k = (moves-each bare_declaration moves-declaration).move h.declarations tokens moved is h.spelt in
      let other = tree_of k.value in
      let same : bare_tree other ≡ bare_tree tree = bare-tree_of k.value ∙ ap tree_of k.alike ∙ sym (bare-tree_of h.declarations) ∙ ap bare_tree (sym h.tree_is) in
      record { value = other; alike = same; spelt = record { declarations = k.value; spelt = k.spelt; tree_is = refl; has_actor = has_actor tree other same h.has_actor } };
}

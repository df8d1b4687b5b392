-- The fault of a script, from its outline and its actors as they are read.
use Rattle.std.proofs.Common.{inl, inr, ◌≡◌, ◌∙◌, ◌++◌, ℕ, zero, suc, Bool, true, false, List, [], ◌∷◌, map, Option, None, Result, Ok, Err, refl, sym, ap, subst}
use Rattle.std.specs.Prelude.{fold, if◌then◌else◌}
use Rattle.std.specs.List.{flat_map}
use Rattle.script_tokens.specs.declared.token.Token.{Token}
use Rattle.script_tokens.specs.declared.token.Mark.TheVariants as m
use Rattle.script_grammar.specs.Grammar.{Declaration, actors_of, tree_of}
use Rattle.script_grammar.specs.Gives.{Fails, Noted}
use Rattle.script_grammar.specs.Outlines.{Outlines, actor_name, outline_of}
use Rattle.script_grammar.specs.Reading.{Outcome, head, passed, repeated}
use Rattle.script_grammar.specs.ScriptReading.{actor_read, begins_declaration, declaration_read, finish, finish_of, has_actor, is_mark, message_read, next_is, script_read}
use Rattle.script_grammar.specs.declared.outline.Outline.{Outline}
use Rattle.script_grammar.specs.declared.stop.Stop.{Stop}
use Rattle.script_grammar.specs.declared.stop.Stop.TheVariants as stop
use Rattle.script_grammar.specs.declared.tree.ActorDecl.{ActorDecl}
use Rattle.script_grammar.specs.declared.tree.MessageDecl.{MessageDecl}
use Rattle.script_grammar.specs.declared.tree.Spelt.{Spelt}
use Rattle.script_grammar.specs.declared.tree.Tree.{Tree}
use Rattle.script_names.specs.Scope.{actor_rows, message_rows, spelt_rows}
use Rattle.script_faults.specs.declared.first.Fault.{Fault}
use Rattle.script_faults.specs.declared.script.Declarations.{Declarations}
use Rattle.script_faults.specs.Finding.{Finds, declaration_after, outline_faults}
use Rattle.script_faults.specs.First.{first_of, too_many}
use Rattle.script_faults.specs.Faults.{actor_faults, faults_of, first_fault, message_faults, own_place, twice_declared}
use Rattle.script_faults.proofs.FirstLemmas.{first_of-append, first_of-then}
use Rattle.script_grammar.proofs.WalkLemmas.{message_declared, passed_read}

-- ---- one declaration

pub message_noted : (s : Declarations) (u : Unit {0}) (tokens rest : List Token) → is_mark m.Message (head tokens) ≡ true → passed (message_read tokens) ≡ Ok (u, rest)
    → Noted (λ d. s ≡ declaration_after s d) rest (declaration_read tokens)
message_noted s u tokens rest is read =
    let found = passed_read (message_read tokens) u rest read in
    record { phrase = inl found.0; reads = message_declared found.0 tokens rest is found.1; holds = refl }

pub actor_noted : (s new : Declarations) (tokens rest : List Token) → is_mark m.Message (head tokens) ≡ false
    → Noted (λ actor. new.found ≡ first_of s.found (actor_faults s.messages.now.decls.now s.actors.now actor)) rest (actor_read tokens) → new.messages ≡ s.messages → new.actors ≡ s.actors
    → Noted (λ d. new ≡ declaration_after s d) rest (declaration_read tokens)
unfolding declaration_read
actor_noted s new tokens rest is noted messages actors =
    let found = noted.holds in
    record {
      phrase = inr noted.phrase;
      reads = rw (is, noted.reads) refl;
      holds = λ i. record { messages = messages i; actors = actors i; found = found i };
    }

-- ---- all declarations

declared_found : (s : Declarations) (ds : List Declaration)
    → (fold declaration_after s ds).found ≡ first_of s.found (flat_map (actor_faults s.messages.now.decls.now s.actors.now) (actors_of ds))
declared_found s [] = refl
declared_found s (inl d ∷ ds) = declared_found s ds
declared_found s (inr a ∷ ds) =
    let faults = actor_faults s.messages.now.decls.now s.actors.now in
    declared_found (declaration_after s (inr a)) ds ∙ sym (first_of-append s.found (faults a) (flat_map faults (actors_of ds)))

-- ---- the outline

pub outline_found : (outline : Outline) (one two three four five : Option Fault) → one ≡ first_of None (too_many 64 (λ (d : MessageDecl). d.name.place) outline.messages)
    → two ≡ first_of one (twice_declared own_place (message_rows outline.messages)) → three ≡ first_of two (flat_map message_faults outline.messages)
    → four ≡ first_of three (too_many 32 (λ (s : Spelt). s.place) outline.actors) → five ≡ first_of four (twice_declared own_place (spelt_rows outline.actors))
    → five ≡ first_of None (outline_faults outline)
outline_found outline one two three four five is-one is-two is-three is-four is-five =
    let a = too_many 64 (λ (d : MessageDecl). d.name.place) outline.messages in
    let b = twice_declared own_place (message_rows outline.messages) in
    let c = flat_map message_faults outline.messages in
    let d = too_many 32 (λ (s : Spelt). s.place) outline.actors in
    let e = twice_declared own_place (spelt_rows outline.actors) in
    first_of-then None four five (a ++ b ++ c ++ d) e (first_of-then None three four (a ++ b ++ c) d (first_of-then None two three (a ++ b) c (first_of-then None one two a b is-one is-two) is-three) is-four) is-five

-- ---- the whole script

names_rows : (actors : List ActorDecl) → spelt_rows (map actor_name actors) ≡ actor_rows actors
names_rows [] = refl
names_rows (a ∷ actors) = ap (λ (rows : List (List ℕ × ℕ)). (a.name.name, a.name.place) ∷ rows) (names_rows actors)

names_many : (most : ℕ) (actors : List ActorDecl) → too_many most (λ (s : Spelt). s.place) (map actor_name actors) ≡ too_many most (λ (a : ActorDecl). a.name.place) actors
names_many most [] = refl
names_many zero (a ∷ actors) = refl
names_many (suc most) (a ∷ actors) = names_many most actors

outline_first : (tree : Tree) → outline_faults (outline_of tree) ++ flat_map (actor_faults tree.messages (actor_rows tree.actors)) tree.actors ≡ faults_of tree
outline_first tree = λ i.
    too_many 64 (λ (d : MessageDecl). d.name.place) tree.messages ++ twice_declared own_place (message_rows tree.messages) ++ flat_map message_faults tree.messages
    ++ names_many 32 tree.actors i ++ twice_declared own_place (names_rows tree.actors i) ++ flat_map (actor_faults tree.messages (actor_rows tree.actors)) tree.actors

module _ (outline : Outline) (s new : Declarations) (messages : s.messages.now.decls.now ≡ outline.messages) (actors : s.actors.now ≡ spelt_rows outline.actors)
    (begun : s.found ≡ first_of None (outline_faults outline)) where
  of_tree : (tree : Tree) → outline ≡ outline_of tree → new.found ≡ first_of s.found (flat_map (actor_faults s.messages.now.decls.now s.actors.now) tree.actors) → new.found ≡ first_fault tree
  of_tree tree is found =
      let faults : List Fault = flat_map (actor_faults tree.messages (actor_rows tree.actors)) tree.actors in
      let own : s.messages.now.decls.now ≡ tree.messages = messages ∙ ap (λ (o : Outline). o.messages) is in
      let rows : s.actors.now ≡ actor_rows tree.actors = actors ∙ ap (λ (o : Outline). spelt_rows o.actors) is ∙ names_rows tree.actors in
      let last : new.found ≡ first_of s.found faults = found ∙ (λ i. first_of s.found (flat_map (actor_faults (own i) (rows i)) tree.actors)) in
      let first : s.found ≡ first_of None (outline_faults (outline_of tree)) = begun ∙ ap (λ (o : Outline). first_of None (outline_faults o)) is in
      first_of-then None s.found new.found (outline_faults (outline_of tree)) faults first last ∙ ap (first_of None) (outline_first tree)

  finds_by : (ds : List Declaration) (rest : List Token) → Outlines outline (finish ds rest)
      → new.found ≡ first_of s.found (flat_map (actor_faults s.messages.now.decls.now s.actors.now) (actors_of ds)) → Finds (finish ds rest) (Ok new.found)
  finds_by ds (t ∷ ts) is found = absurd is
  finds_by ds [] is found = by (has_actor (tree_of ds)) is
    where
      by : (b : Bool) → Outlines outline (if b then Ok (tree_of ds) else Err []) → Finds (if b then Ok (tree_of ds) else Err []) (Ok new.found)
      by true is = of_tree (tree_of ds) is found
      by false is = absurd is

  pub noted_script : (tokens rest : List Token) → Outlines outline (script_read tokens)
      → Noted (λ ds. new ≡ fold declaration_after s ds) rest (repeated (next_is begins_declaration) declaration_read tokens) → Finds (script_read tokens) (Ok new.found)
  unfolding script_read
  noted_script tokens rest is noted =
      let ds = noted.phrase in
      let found = ap (λ (d : Declarations). d.found) noted.holds ∙ declared_found s ds in
      let read : script_read tokens ≡ finish ds rest = ap finish_of noted.reads in
      subst (λ (r : Result Tree (List Token)). Finds r (Ok new.found)) (sym read) (finds_by ds rest (subst (λ (r : Result Tree (List Token)). Outlines outline r) read is) found)

-- a script is not refused
pub script_stops : (outline : Outline) (e : Stop) (tokens rest : List Token) → Outlines outline (script_read tokens)
    → Fails e rest (repeated (next_is begins_declaration) declaration_read tokens) → Finds (script_read tokens) (Err e)
unfolding script_read
script_stops outline stop.NoMemory tokens rest is fails = no_memory (script_read tokens)
  where
    no_memory : (read : Result Tree (List Token)) → Finds read (Err stop.NoMemory)
    no_memory (Ok tree) = tt
    no_memory (Err rest) = tt
script_stops outline stop.Refused tokens rest is fails =
    let read : script_read tokens ≡ Err rest = ap finish_of fails in
    absurd (subst (λ (r : Result Tree (List Token)). Outlines outline r) read is)

-- The text of the plan of a script is cut into the tokens of the script.
use Rattle.std.proofs.Common.{◌≡◌, ◌∙◌, ℕ, ◌<◌, inl, inr, List, [], ◌∷◌, ◌++◌, length, refl, sym, ap, subst, append_assoc, arith}
use Rattle.std.specs.List.{flat_map}
use Rattle.std.proofs.lemmas.List.{append-nil}
use Rattle.script_tokens.specs.declared.token.Token.{Token}
use Rattle.script_grammar.specs.declared.tree.ActorDecl.{ActorDecl}
use Rattle.script_grammar.specs.declared.tree.MessageDecl.{MessageDecl}
use Rattle.script_grammar.specs.declared.tree.Tree.{Tree}
use Rattle.script_grammar.specs.Phrases.{◌then◌, each}
use Rattle.script_grammar.specs.Grammar.{Declaration, IsScript, Tokens, actor, actors_of, declaration, message, messages_of}
use Rattle.script_names.specs.Scope.{actor_rows}
use Rattle.script_types.specs.declared.plan.Plan.{Plan}
use Rattle.script_faults.specs.Faults.{actor_faults, faults_of}
use Rattle.script_plan.specs.PlanOf.{actor_of, kind_of, plan_of}
use Rattle.script_plan.proofs.SmallLemmas.{each_append}
use Rattle.place_law.specs.Law.{PlacesDoNotMatter}
use Rattle.script_check.proofs.NumberLemmas.{right_none}
use Rattle.script_check.proofs.SmallLemmas.{each_none, each_one}
use Rattle.plan_text.specs.PlanText.{actor_lines, kind_line, plan_text}
use Rattle.plan_law.specs.Printed.{SpellsButForPlaces, PlansReadBack, PlansSpellTheirTree, kinds}
use Rattle.plan_law.proofs.ActorLemmas.{prints_actor}
use Rattle.plan_law.proofs.CutLemmas.{IsCut, nothing_cut}
use Rattle.plan_law.proofs.DeclarationLemmas.{all_of, prints_message}
use Rattle.plan_law.proofs.LexedLemmas.{AreLexed, IsLexed, lexed_back, lexed_front, tokens_lexed}
use Rattle.plan_law.proofs.PhraseLemmas.{Prints, prints_any_then, prints_each_any}
use Rattle.plan_law.proofs.WriteLemmas.{Any, any}

-- ---- the messages of a script before its actors

-- the tokens of the messages and those of the actors, of a list of declarations
record IsSorted (ds : List Declaration) : Type 0 where
  first : Tokens
  second : Tokens
  messages : each message (messages_of ds) first
  actors : each actor (actors_of ds) second
  first_lexed : AreLexed first
  second_lexed : AreLexed second

-- lists of tokens that are what tokens may be, one behind the other
lexed_both : (ts us : Tokens) → AreLexed ts → AreLexed us → AreLexed (ts ++ us)
lexed_both ts us h k = each_append (λ (t : Token). IsLexed t.kind) ts us h k

-- the tokens of declarations, sorted by messages and actors
sorted : (ds : List Declaration) (tokens : Tokens) → AreLexed tokens → each declaration ds tokens → IsSorted ds
sorted [] tokens lexed h = record { first = []; second = []; messages = refl; actors = refl; first_lexed = tt; second_lexed = tt }
sorted (inl d ∷ ds) tokens lexed h =
    let more = sorted ds h.back (lexed_back tokens h.front h.back h.parts lexed) h.other in
    record {
      first = h.front ++ more.first;
      second = more.second;
      messages = record { front = h.front; back = more.first; parts = refl; one = h.one; other = more.messages };
      actors = more.actors;
      first_lexed = lexed_both h.front more.first (lexed_front tokens h.front h.back h.parts lexed) more.first_lexed;
      second_lexed = more.second_lexed;
    }
sorted (inr a ∷ ds) tokens lexed h =
    let more = sorted ds h.back (lexed_back tokens h.front h.back h.parts lexed) h.other in
    record {
      first = more.first;
      second = h.front ++ more.second;
      messages = more.messages;
      actors = record { front = h.front; back = more.second; parts = refl; one = h.one; other = more.actors };
      first_lexed = more.first_lexed;
      second_lexed = lexed_both h.front more.second (lexed_front tokens h.front h.back h.parts lexed) more.second_lexed;
    }

-- declarations with all messages before all actors
abbrev declared : List MessageDecl → List ActorDecl → List Declaration
declared [] [] = []
declared [] (a ∷ as') = inr a ∷ declared [] as'
declared (d ∷ ds) as' = inl d ∷ declared ds as'

-- these declarations have those messages and actors, and their tokens
messages_declared : (ds : List MessageDecl) (as' : List ActorDecl) → messages_of (declared ds as') ≡ ds
messages_declared [] [] = refl
messages_declared [] (a ∷ as') = messages_declared [] as'
messages_declared (d ∷ ds) as' = ap (λ (l : List MessageDecl). d ∷ l) (messages_declared ds as')

actors_declared : (ds : List MessageDecl) (as' : List ActorDecl) → actors_of (declared ds as') ≡ as'
actors_declared [] [] = refl
actors_declared [] (a ∷ as') = ap (λ (l : List ActorDecl). a ∷ l) (actors_declared [] as')
actors_declared (d ∷ ds) as' = actors_declared ds as'

each_declared : (ds : List MessageDecl) (as' : List ActorDecl) (ts us : Tokens) → each message ds ts → each actor as' us → each declaration (declared ds as') (ts ++ us)
each_declared [] [] ts us h k = rw (h, k) refl
each_declared [] (a ∷ as') ts us h k = record { front = k.front; back = k.back; parts = rw h (k.parts); one = k.one; other = each_declared [] as' [] k.back refl k.other }
each_declared (d ∷ ds) as' ts us h k = record {
  front = h.front;
  back = h.back ++ us;
  parts = ap (λ (l : Tokens). l ++ us) h.parts ∙ append_assoc h.front h.back us;
  one = h.one;
  other = each_declared ds as' h.back us h.other k;
}

-- the tree's tokens, the messages before the actors
ordered_script : (tree : Tree) (ts us : Tokens) → each message tree.messages ts → each actor tree.actors us → 0 < length tree.actors → IsScript tree (ts ++ us)
ordered_script tree ts us h k some = record {
  declarations = declared tree.messages tree.actors;
  spelt = each_declared tree.messages tree.actors ts us h k;
  tree_is = sym (ap (λ (ds : List MessageDecl). record { messages = ds; actors = actors_of (declared tree.messages tree.actors) }) (messages_declared tree.messages tree.actors) ∙ ap (λ (l : List ActorDecl). record { messages = tree.messages; actors = l }) (actors_declared tree.messages tree.actors));
  has_actor = some;
}

-- ---- the text of a plan

-- the text of the plan of a tree without faults has the tokens of its messages and then of its actors
prints_tree : (tree : Tree) → faults_of tree ≡ [] → Prints Any (each message tree.messages then each actor tree.actors) (plan_text (plan_of tree))
prints_tree tree none =
    let faults = actor_faults tree.messages (actor_rows tree.actors) in
    let none_of = right_none _ (flat_map faults tree.actors) none in
    prints_any_then
    (prints_each_any message kind_of kind_line tree.messages (all_of (λ (d : MessageDecl). Prints Any (message d) (kind_line (kind_of d))) prints_message tree.messages))
    (prints_each_any actor (actor_of tree) (actor_lines (plan_of tree)) tree.actors
    (each_one (λ (a : ActorDecl). faults a ≡ []) (λ (a : ActorDecl). Prints Any (actor a) (actor_lines (plan_of tree) (actor_of tree a))) (prints_actor tree) tree.actors (each_none faults tree.actors none_of)))

-- a text that is cut into tokens of the tree, but for their places
spells_by_cut : (tree : Tree) (ts : Tokens) (text : List ℕ) → IsCut (text ++ []) (kinds ts ++ []) → IsScript tree ts → SpellsButForPlaces text tree
spells_by_cut tree ts text cut script =
    let whole : IsCut text (kinds ts) = rw (append-nil text, append-nil (kinds ts)) at cut in
    let tokens = whole.tokens (length text) (omega arith) in
    record { text = whole.utf8; tokens = tokens.0; cut = tokens.1.0; placed = ts; script = script; same = tokens.1.1 }

-- from the tokens of the messages and of the actors
spells_sorted : (tree : Tree) → faults_of tree ≡ [] → 0 < length tree.actors → (ts us : Tokens) → AreLexed ts → AreLexed us → each message tree.messages ts → each actor tree.actors us → SpellsButForPlaces (plan_text (plan_of tree)) tree
spells_sorted tree none some ts us lexed lexed' h k =
    let phrase : (each message tree.messages then each actor tree.actors) (ts ++ us) = record { front = ts; back = us; parts = refl; one = h; other = k } in
    let prints = prints_tree tree none in
    let writes = prints.prints (ts ++ us) (lexed_both ts us lexed lexed') phrase in
    spells_by_cut tree (ts ++ us) (plan_text (plan_of tree)) (writes.before [] [] any nothing_cut) (ordered_script tree ts us h k some)

-- from the script to its sorted tokens
pub plans_spell_their_tree : PlansSpellTheirTree
plans_spell_their_tree bytes tree plan spells types =
    let script = spells.script in
    let s = sorted script.declarations spells.tokens (tokens_lexed (length bytes) bytes spells.tokens spells.cut) script.spelt in
    let messages = subst (λ (t : Tree). each message t.messages s.first) (sym script.tree_is) s.messages in
    let actors = subst (λ (t : Tree). each actor t.actors s.second) (sym script.tree_is) s.actors in
    subst (λ (p : Plan). SpellsButForPlaces (plan_text p) tree) (sym types.plan_is)
    (spells_sorted tree types.no_fault script.has_actor s.first s.second s.first_lexed s.second_lexed messages actors)

-- where places do not matter, the text of a plan reads and checks to that plan
pub plans_read_back : PlacesDoNotMatter → PlansReadBack
plans_read_back moves bytes tree plan spells types =
    let h = plans_spell_their_tree bytes tree plan spells types in
    let found = moves tree plan h.placed h.tokens h.script types h.same in
    (found.0, (record { text = h.text; tokens = h.tokens; cut = h.cut; script = found.1.0 }, found.1.1))

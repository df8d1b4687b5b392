-- What a visitor takes of definitions, actors and a whole script, as they are read; and the plan without definitions.
use Rattle.std.proofs.Common.{inl, inr, ◌≡◌, ◌∙◌, ◌≤◌, ℕ, Bool, true, false, cond, List, [], ◌∷◌, length, map, Result, Ok, Err, refl, sym, ap, subst, arith}
use Rattle.std.specs.Prelude.{fold}
use Rattle.std.proofs.lemmas.List.{length-map}
use Rattle.script_tokens.specs.declared.token.Token.{Token}
use Rattle.script_tokens.specs.declared.token.Mark.TheVariants as m
use Rattle.script_grammar.specs.Gives.{Fails, Noted}
use Rattle.script_grammar.specs.Grammar.{Declaration, actors_of, tree_of}
use Rattle.script_grammar.specs.Outlines.{Outlines, actor_name, outline_of}
use Rattle.script_grammar.specs.Reading.{Outcome, head, passed, repeated}
use Rattle.script_grammar.specs.ScriptReading.{actor_read, begins_declaration, declaration_read, definition_read, finish, finish_of, has_actor, is_mark, mark_read, message_read, name_read, next_is, script_read}
use Rattle.script_grammar.specs.declared.outline.Outline.{Outline}
use Rattle.script_grammar.specs.declared.stop.Stop.{Stop}
use Rattle.script_grammar.specs.declared.stop.Stop.TheVariants as stop
use Rattle.script_grammar.specs.declared.tree.MessageDecl.{MessageDecl}
use Rattle.script_grammar.specs.declared.tree.RuleDecl.{RuleDecl}
use Rattle.script_grammar.specs.declared.tree.ActorDecl.{ActorDecl}
use Rattle.script_grammar.specs.declared.tree.Spelt.{Spelt}
use Rattle.script_grammar.specs.declared.tree.Tree.{Tree}
use Rattle.script_grammar.proofs.WalkLemmas.{message_declared, passed_read}
use Rattle.script_types.specs.declared.plan.ActorPlan.{ActorPlan}
use Rattle.script_types.specs.declared.plan.Plan.{Plan}
use Rattle.script_types.specs.declared.plan.Rule.{Rule}
use Rattle.script_plan.specs.PlanOf.{actor_of, kind_of, plan_of, rule_of}
use Rattle.script_plan.specs.Planned.{AllSmall, outline_tree}
use Rattle.script_plan.specs.Visited.{Visits, actor_taken, actors_taken, declaration_taken, head_of, heads_of, name_alone, rule_taken, without_rules}
use Rattle.script_plan.proofs.OutlineLemmas.{actors_same}

-- ---- the names of a plan

actors_headed : (tree : Tree) (actors : List ActorDecl) → map head_of (map actor_name actors) ≡ map name_alone (map (actor_of tree) actors)
actors_headed tree [] = refl
actors_headed tree (actor ∷ actors) =
    let behind_it : List ActorPlan → List ActorPlan = λ l. record { name = actor.name.name; rules = [] } ∷ l in ap behind_it (actors_headed tree actors)

-- an outline has the names of its script's plan
pub heads_are : (outline : Outline) (tree : Tree) → outline ≡ outline_of tree → heads_of outline ≡ without_rules (plan_of tree)
heads_are outline tree is =
    let with_actors : List ActorPlan → Plan = λ actors. record { kinds = map kind_of tree.messages; actors = actors } in
    ap heads_of is ∙ ap with_actors (actors_headed tree tree.actors)

-- ---- one declaration

fold_mapped : {K : Type 0} (with_rule : K → Rule → K) (tree : Tree) (taken : K) (rules : List RuleDecl) → fold (rule_taken with_rule tree) taken rules ≡ fold with_rule taken (map (rule_of tree) rules)
fold_mapped with_rule tree taken [] = refl
fold_mapped with_rule tree taken (rule ∷ rules) = fold_mapped with_rule tree (with_rule taken (rule_of tree rule)) rules

module _ {K : Type 0} (with_actor : K → List ℕ → K) (with_rule : K → Rule → K) (with_end : K → List ℕ → K) (tree : Tree) where
  pub visited_actor : (before begun middle now : K) (place brace close : ℕ) (spelt : Spelt) (name : List ℕ) (tokens one two three four rest : List Token) → mark_read m.Actor tokens ≡ Ok (place, one)
      → name_read one ≡ Ok (spelt, two) → mark_read m.OpenBrace two ≡ Ok (brace, three) → name ≡ spelt.name → begun ≡ with_actor before name
      → Noted (λ rules. middle ≡ fold (rule_taken with_rule tree) begun rules) four (repeated (is_mark m.When) definition_read three) → mark_read m.CloseBrace four ≡ Ok (close, rest)
      → now ≡ with_end middle name → Noted (λ actor. now ≡ actor_taken with_actor with_rule with_end before (actor_of tree actor)) rest (actor_read tokens)
  unfolding actor_read
  visited_actor before begun middle now place brace close spelt name tokens one two three four rest read named opened same began noted closed ended =
      let rules = noted.phrase in
      let start : begun ≡ with_actor before spelt.name = began ∙ ap (with_actor before) same in
      let taken : middle ≡ fold with_rule (with_actor before spelt.name) (map (rule_of tree) rules) =
      noted.holds ∙ fold_mapped with_rule tree begun rules ∙ ap (λ (k : K). fold with_rule k (map (rule_of tree) rules)) start in
      record {
        phrase = record { name = spelt; rules = rules };
        reads = rw (read, named, opened, noted.reads, closed) refl;
        holds = ended ∙ (λ i. with_end (taken i) (same i));
      }

  pub visited_message : (taken : K) (u : Unit {0}) (tokens rest : List Token) → is_mark m.Message (head tokens) ≡ true → passed (message_read tokens) ≡ Ok (u, rest)
      → Noted (λ d. taken ≡ declaration_taken with_actor with_rule with_end tree taken d) rest (declaration_read tokens)
  visited_message taken u tokens rest is read =
      let found = passed_read (message_read tokens) u rest read in
      record { phrase = inl found.0; reads = message_declared found.0 tokens rest is found.1; holds = refl }

  pub visited_declared : (before now : K) (tokens rest : List Token) → is_mark m.Message (head tokens) ≡ false
      → Noted (λ actor. now ≡ actor_taken with_actor with_rule with_end before (actor_of tree actor)) rest (actor_read tokens)
      → Noted (λ d. now ≡ declaration_taken with_actor with_rule with_end tree before d) rest (declaration_read tokens)
  unfolding declaration_read
  visited_declared before now tokens rest is noted = record { phrase = inr noted.phrase; reads = rw (is, noted.reads) refl; holds = noted.holds }

  declarations_taken : (taken : K) (ds : List Declaration)
      → fold (declaration_taken with_actor with_rule with_end tree) taken ds ≡ actors_taken with_actor with_rule with_end taken (map (actor_of tree) (actors_of ds))
  declarations_taken taken [] = refl
  declarations_taken taken (inl message ∷ ds) = declarations_taken taken ds
  declarations_taken taken (inr actor ∷ ds) = declarations_taken (actor_taken with_actor with_rule with_end taken (actor_of tree actor)) ds

-- ---- the whole script

pub few : (outline : Outline) (read : Result Tree (List Token)) → Outlines outline read → AllSmall read → (length outline.messages ≤ 64) × (length outline.actors ≤ 32)
few outline (Err rest) is small = absurd is
few outline (Ok tree) is small =
    let count = length-map tree.actors actor_name in (
      subst (λ (o : Outline). length o.messages ≤ 64) (sym is) small.messages,
      subst (λ (o : Outline). length o.actors ≤ 32) (sym is) (omega (arith, count, small.actors)),
    )

module _ {K : Type 0} (with_actor : K → List ℕ → K) (with_rule : K → Rule → K) (with_end : K → List ℕ → K) (outline : Outline) where
  module _ (before now : K) where
    of_tree : (tree : Tree) → outline ≡ outline_of tree → now ≡ actors_taken with_actor with_rule with_end before (map (actor_of (outline_tree outline)) tree.actors)
        → now ≡ actors_taken with_actor with_rule with_end before (map (actor_of tree) tree.actors)
    of_tree tree is taken =
        let same : map (actor_of (outline_tree outline)) tree.actors ≡ map (actor_of tree) tree.actors =
        ap (λ (o : Outline). map (actor_of (outline_tree o)) tree.actors) is ∙ actors_same tree tree.actors in
        taken ∙ ap (actors_taken with_actor with_rule with_end before) same

    visits_by : (ds : List Declaration) (rest : List Token) → Outlines outline (finish ds rest)
        → now ≡ actors_taken with_actor with_rule with_end before (map (actor_of (outline_tree outline)) (actors_of ds))
        → Visits with_actor with_rule with_end before now (finish ds rest) (Ok tt)
    visits_by ds (t ∷ ts) is taken = absurd is
    visits_by ds [] is taken = by-test (has_actor (tree_of ds)) is
      where
        by-test : (b : Bool) → Outlines outline (cond b (Ok (tree_of ds)) (Err [])) → Visits with_actor with_rule with_end before now (cond b (Ok (tree_of ds)) (Err [])) (Ok tt)
        by-test true same = of_tree (tree_of ds) same taken
        by-test false same = absurd same

    pub visited_script : (tokens rest : List Token) → Outlines outline (script_read tokens)
        → Noted (λ ds. now ≡ fold (declaration_taken with_actor with_rule with_end (outline_tree outline)) before ds) rest (repeated (next_is begins_declaration) declaration_read tokens)
        → Visits with_actor with_rule with_end before now (script_read tokens) (Ok tt)
    unfolding script_read
    visited_script tokens rest is noted =
        let ds = noted.phrase in
        let taken = noted.holds ∙ declarations_taken with_actor with_rule with_end (outline_tree outline) before ds in
        let read : script_read tokens ≡ finish ds rest = ap finish_of noted.reads in
        subst (λ (r : Result Tree (List Token)). Visits with_actor with_rule with_end before now r (Ok tt)) (sym read)
        (visits_by ds rest (subst (λ (r : Result Tree (List Token)). Outlines outline r) read is) taken)

    -- a script is not refused
    pub script_stops : (e : Stop) (tokens rest : List Token) → Outlines outline (script_read tokens)
        → Fails e rest (repeated (next_is begins_declaration) declaration_read tokens) → Visits with_actor with_rule with_end before now (script_read tokens) (Err e)
    unfolding script_read
    script_stops stop.NoMemory tokens rest is fails = no_memory (script_read tokens)
      where
        no_memory : (read : Result Tree (List Token)) → Visits with_actor with_rule with_end before now read (Err stop.NoMemory)
        no_memory (Ok tree) = tt
        no_memory (Err left) = tt
    script_stops stop.Refused tokens rest is fails =
        let read : script_read tokens ≡ Err rest = ap finish_of fails in
        absurd (subst (λ (r : Result Tree (List Token)). Outlines outline r) read is)

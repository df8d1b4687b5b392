-- A tree has one plan or one fault.
use Rattle.std.proofs.Common.{inr, ◌≡◌, ◌∙◌, ℕ, List, [], false, Option, None, Some, Ok, refl, sym, subst, arith}
use Rattle.std.specs.Prelude.{Contains}
use Rattle.script_tokens.specs.declared.token.Token.{Token}
use Rattle.script_grammar.specs.Outlines.{Outlines}
use Rattle.script_grammar.specs.ScriptReading.{script_read}
use Rattle.script_grammar.specs.declared.outline.Outline.{Outline}
use Rattle.script_reader.specs.Spells.{ReadsTree, SpellsOutline}
use Rattle.script_types.specs.declared.plan.Plan.{Plan}
use Rattle.script_types.specs.declared.plan.Rule.{Rule}
use Rattle.script_faults.specs.declared.first.Fault.{Fault}
use Rattle.script_faults.specs.First.{fault, is_before}
use Rattle.script_faults.specs.Faults.{faults_of}
use Rattle.script_faults.specs.Finding.{Finds}
use Rattle.script_plan.specs.PlanOf.{plan_of}
use Rattle.script_plan.specs.Planned.{AllSmall, IsPlanOf}
use Rattle.script_plan.specs.Visited.{Visits}
use Rattle.script_plan.proofs.VisitedLemmas.{heads_are}
use Rattle.script_check.specs.Checked.{HasVisited}
use Rattle.script_check.specs.Script.{GivesPlan, IsFirstFault, IsScriptFault}
use Rattle.script_check.specs.Types.{NoBoth, OneFault, OnePlan}
use Rattle.script_check.proofs.LeastLemmas.{at_member, least_first, none_first, one_fault}
use Rattle.script_types.specs.Names.{HasNames}
use Rattle.script_types.specs.Typed.{IsTyped}
use Rattle.script_check.proofs.SmallLemmas.{small_tree}
use Rattle.script_check.proofs.PlanLemmas.{plan_typed}

-- ---- a script that is read once more

pub first_found : (bytes : List ℕ) (tokens : List Token) → ReadsTree bytes tokens → (found : Option Fault) → Finds (script_read tokens) (Ok found) → IsFirstFault bytes found
first_found bytes tokens reads found finds = λ tree spells. rw (reads tree spells) at finds

module _ (bytes : List ℕ) (outline : Outline) (spelt : SpellsOutline bytes outline) where
  no_fault : IsFirstFault bytes None → faults_of spelt.tree ≡ []
  no_fault none = none_first (faults_of spelt.tree) (sym (none spelt.tree spelt.spells))

  module _ (tokens : List Token) (reads : ReadsTree bytes tokens) where
    same_read : script_read tokens ≡ Ok spelt.tree
    same_read = reads spelt.tree spelt.spells

    pub outlined : Outlines outline (script_read tokens)
    outlined = rw same_read spelt.outline_is

    pub all_small : IsFirstFault bytes None → AllSmall (script_read tokens)
    all_small none = rw same_read (small_tree spelt.tree spelt.filled (no_fault none))

    -- the plan of the tokens is the plan of the tree
    plan_read : (plan : Plan) → IsPlanOf plan (script_read tokens) → plan ≡ plan_of spelt.tree
    plan_read plan is = rw same_read at is

    pub gives_plan : (plan : Plan) → IsFirstFault bytes None → IsPlanOf plan (script_read tokens) → GivesPlan bytes plan
    gives_plan plan none is = (spelt.tree, spelt.spells, record { no_fault = no_fault none; plan_is = plan_read plan is })

    pub typed_plan : (plan : Plan) → IsFirstFault bytes None → IsPlanOf plan (script_read tokens) → HasNames plan → IsTyped plan
    typed_plan plan none is names =
        let same = plan_read plan is in
        subst IsTyped (sym same) (plan_typed spelt.tree spelt.filled (no_fault none) (subst HasNames same names))

    -- a visitor of the tokens took the plan of the tree
    pub visited : {K : Type 0} (with_actor : K → List ℕ → K) (with_rule : K → Rule → K) (with_end : K → List ℕ → K) (before now : K) → IsFirstFault bytes None
        → Visits with_actor with_rule with_end before now (script_read tokens) (Ok tt) → HasVisited with_actor with_rule with_end before now bytes outline
    visited with_actor with_rule with_end before now none is = record {
      plan = plan_of spelt.tree;
      gives = (spelt.tree, spelt.spells, record { no_fault = no_fault none; plan_is = refl });
      heads_are = heads_are outline spelt.tree spelt.outline_is;
      taken = rw same_read at is;
    }

  pub faulty : (f : Fault) → IsFirstFault bytes (Some f) → IsScriptFault bytes f.place f.cause
  faulty f first =
      let l = least_first (faults_of spelt.tree) f (sym (first spelt.tree spelt.spells)) in
      inr (spelt.tree, spelt.spells, record { stands = l.stands; least = l.least })

no_member : (faults : List Fault) (f : Fault) → faults ≡ [] → Contains faults f → ⊥
no_member faults f is c = let e : Contains [] f = subst (λ (fs : List Fault). Contains fs f) is c in omega (arith, e.1)

pub one_plan : OnePlan
one_plan tree plan other t u = t.plan_is ∙ sym u.plan_is

pub no_both : NoBoth
no_both tree plan place cause t f = no_member (faults_of tree) (fault cause place) t.no_fault f.stands

pub one_fault_of : OneFault
one_fault_of tree place place' cause cause' f g =
    one_fault (fault cause place) (fault cause' place')
    (at_member (λ (h : Fault). is_before h (fault cause' place') ≡ false) (faults_of tree) (fault cause place) g.least f.stands)
    (at_member (λ (h : Fault). is_before h (fault cause place) ≡ false) (faults_of tree) (fault cause' place') f.least g.stands)

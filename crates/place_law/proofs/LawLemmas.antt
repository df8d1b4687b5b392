-- The places of a script's tokens do not matter to its plan.
use Rattle.std.proofs.Common.{◌≡◌, ◌∙◌, sym, ap}
use Rattle.script_grammar.specs.declared.tree.Tree.{Tree}
use Rattle.script_types.specs.declared.plan.Plan.{Plan}
use Rattle.script_faults.specs.Faults.{faults_of}
use Rattle.script_plan.specs.PlanOf.{plan_of}
use Rattle.script_check.specs.Types.{Types}
use Rattle.place_law.specs.Law.{PlacesDoNotMatter}
use Rattle.place_law.proofs.Bare.{bare_tree}
use Rattle.place_law.proofs.GrammarLemmas.{moves-script}
use Rattle.place_law.proofs.FaultsLemmas.{no_fault, tree-same, turned}
use Rattle.place_law.proofs.PlanLemmas.{plan_of-bare}

-- trees that differ in places alone have one plan
types_same : (tree other : Tree) (plan : Plan) → bare_tree other ≡ bare_tree tree → Types tree plan → Types other plan
types_same tree other plan alike types =
    let bare_none = no_fault (faults_of (bare_tree tree)) (faults_of tree) (tree-same tree) types.no_fault in
    let plans : plan_of tree ≡ plan_of other = sym (plan_of-bare tree) ∙ sym (ap plan_of alike) ∙ plan_of-bare other in
    record {
      no_fault = no_fault (faults_of other) (faults_of (bare_tree other)) (turned (tree-same other)) (ap faults_of alike ∙ bare_none);
      plan_is = types.plan_is ∙ plans;
    }

pub places_do_not_matter : PlacesDoNotMatter
places_do_not_matter tree plan tokens moved script types same =
    let k = moves-script.move tree tokens moved (record { same = same }) script in
    (k.value, (k.spelt, types_same tree k.value plan k.alike types))

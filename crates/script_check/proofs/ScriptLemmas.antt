-- From trees to the bytes that spell them.
use Rattle.std.proofs.Common.{inl, inr, ℕ, List, subst, Err}
use Rattle.script_grammar.specs.declared.tree.Tree.{Tree}
use Rattle.script_grammar.specs.declared.fault.ScriptFault.{ScriptFault}
use Rattle.script_grammar.specs.declared.fault.ScriptFault.TheVariants as fault
use Rattle.script_reader.specs.Spells as reader
use Rattle.script_check.specs.Types.{IsFaultOf, NoBoth, OneFault, OnePlan, Types}
use Rattle.script_check.specs.Script.{NoPlanAndFault, OneScriptFault, OneScriptPlan, ReadsPlan}

-- ---- what is read

pub unread : (bytes : List ℕ) (f : ScriptFault) → reader.FaultIs bytes f → ReadsPlan bytes (Err f)
unread bytes (fault.Bad place cause) is = inl is
unread bytes fault.NoMemory is = tt

-- ---- one answer

module _ (one : reader.OneTree) where
  pub one_plan : OnePlan → OneScriptPlan
  one_plan same bytes plan other a b = same a.0 plan other a.2 (subst (λ (tree : Tree). Types tree other) (one bytes b.0 a.0 b.1 a.1) b.2)

  pub no_fault : reader.NoBoth → NoBoth → NoPlanAndFault
  no_fault unread none bytes plan place cause gives (inl is) = unread bytes gives.0 place cause gives.1 is
  no_fault unread none bytes plan place cause gives (inr is) =
      none gives.0 plan place cause gives.2 (subst (λ (tree : Tree). IsFaultOf tree place cause) (one bytes is.0 gives.0 is.1 gives.1) is.2)

  pub one_fault : reader.NoBoth → reader.OneFault → OneFault → OneScriptFault
  one_fault unread same check bytes place place' cause cause' (inl a) (inl b) = same bytes place place' cause cause' a b
  one_fault unread same check bytes place place' cause cause' (inl a) (inr b) = absurd (unread bytes b.0 place cause b.1 a)
  one_fault unread same check bytes place place' cause cause' (inr a) (inl b) = absurd (unread bytes a.0 place' cause' a.1 b)
  one_fault unread same check bytes place place' cause cause' (inr a) (inr b) =
      check a.0 place place' cause cause' a.2 (subst (λ (tree : Tree). IsFaultOf tree place' cause') (one bytes b.0 a.0 b.1 a.1) b.2)

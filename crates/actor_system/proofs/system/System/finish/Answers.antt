use Rattle.std.proofs.Common.{◌≡◌, ◌∙◌, ℕ, false, ap, sym, subst, refl}
use Rattle.fair_semantics.specs.declared.run.Run.{Run}
use Rattle.fair_semantics.specs.Linked.{IsLinked}
use Rattle.run_order_law.specs.Order.{shown}
use Rattle.run_order_law.proofs.LawLemmas.{runs_are_schedules}
use Rattle.actor_system.specs.Serving.{Serving, some_waits, system_in}
use Rattle.actor_system.specs.Inside.{serving_of}
use Rattle.actor_system.proofs.FinishLemmas.{finished, links}
use Rattle.actor_system.proofs.system.System.finish.Goals as goal

pub returns-clause-shown : goal.returns-clause-shown
returns-clause-shown c =
    let s : Serving = serving_of c.self.inside in
    let run_at : ℕ → Run = λ version. record { version = version; limits = c.self.inside.limits; feeds = c.len.result; actors = c.into_runs.result } in
    ap run_at c.stamped.ensures
    ∙ finished s c.self.invariant.sound c.self.inside.limits c.len.result c.into_runs.result refl c.len.ensures.count c.into_runs.ensures
    ∙ ap (λ (v : Serving). shown v.plan v.limits v.feeds (system_in v)) c.self.view_is

pub returns-clause-linked : goal.returns-clause-linked
returns-clause-linked c =
    let s : Serving = serving_of c.self.inside in
    let none : some_waits s ≡ false = ap some_waits c.self.view_is ∙ c.requires.nothing in
    let run_at : ℕ → Run = λ version. record { version = version; limits = c.self.inside.limits; feeds = c.len.result; actors = c.into_runs.result } in
    let is = ap run_at c.stamped.ensures ∙ finished s c.self.invariant.sound c.self.inside.limits c.len.result c.into_runs.result refl c.len.ensures.count c.into_runs.ensures in
    let linked : IsLinked s.plan s.limits s.feeds record { version = c.stamped.result; limits = c.self.inside.limits; feeds = c.len.result; actors = c.into_runs.result } =
    subst (λ (run : Run). IsLinked s.plan s.limits s.feeds run) (sym is) (links s none c.self.invariant.sound) in
    subst (λ (v : Serving). IsLinked v.plan v.limits v.feeds record { version = c.stamped.result; limits = c.self.inside.limits; feeds = c.len.result; actors = c.into_runs.result }) c.self.view_is linked

pub returns-clause-scheduled : goal.returns-clause-scheduled
returns-clause-scheduled c =
    let run : Run = record { version = c.stamped.result; limits = c.self.inside.limits; feeds = c.len.result; actors = c.into_runs.result } in
    runs_are_schedules c.args.self.plan c.args.self.limits c.args.self.feeds run (returns-clause-linked c) c.stamped.ensures

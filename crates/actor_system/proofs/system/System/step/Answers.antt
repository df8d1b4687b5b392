use Rattle.std.proofs.Common.{◌≡◌, ◌∙◌, ℕ, ◌≤◌, false, List, length, ap, sym, subst, arith}
use Rattle.actor_system.specs.Serving.{Link, Served, ServedInPart, Serving, links_of, links_to, some_taken, some_waits, system_in}
use Rattle.actor_system.proofs.LinkLemmas.{links_around, links_before, links_more, nothing_waits, on_err, part_behind, same_links, served_both, taken_behind, taken_where_waits}
use Rattle.actor_system.proofs.system.System.step.Goals as goal

-- at the end all links are served
whole : (s : Serving) (targets target : ℕ) → targets ≡ length s.plan.actors → targets ≤ target → target ≤ targets → links_before s target ≡ links_of s
whole s targets target is l m = let same : target ≡ length s.plan.actors = omega arith in ap (links_before s) same

pub returns-in_err-taken-clause-part : goal.returns-in_err-taken-clause-part
returns-in_err-taken-clause-part g c =
    let s : Serving = c.args.self.now in
    let now : Serving = c.loop-target.self in
    let around = links_around s c.loop-target.target (omega (arith, c.loop-target-test.true, c.loop-target.invariant.targets)) in
    let part : ServedInPart now (links_to s c.loop-target.target) c.serve.new.self =
    subst (λ (ls : List Link). ServedInPart now ls c.serve.new.self) (same_links s now (links_before s c.loop-target.target) c.loop-target.target c.loop-target.invariant.served) c.in_err-taken.ensures.part in
    on_err c.from_residual.result
    (subst (λ (ls : List Link). ServedInPart s ls c.serve.new.self) (sym around.1)
    (part_behind s now c.serve.new.self (links_before s c.loop-target.target) (links_to s c.loop-target.target) around.0 c.loop-target.invariant.served part))

pub loop-target-preserved : goal.loop-target-preserved
loop-target-preserved g c =
    let s : Serving = c.args.self.now in
    let now : Serving = c.loop-target.self in
    let front : List Link = links_before s c.loop-target.target in
    let links : List Link = links_to s c.loop-target.target in
    let same = same_links s now front c.loop-target.target c.loop-target.invariant.served in
    let served : Served now links c.serve.new.self = subst (λ (ls : List Link). Served now ls c.serve.new.self) same c.in_ok-taken.ensures.served in
    let taken : c.in_ok-taken.field-0 ≡ some_taken now.plan now.limits (system_in now) links = c.in_ok-taken.ensures.taken ∙ ap (some_taken now.plan now.limits (system_in now)) same in
    let next = links_more s c.loop-target.target in
    record {
      targets = c.loop-target.invariant.targets;
      served = subst (λ (ls : List Link). Served s ls c.serve.new.self) (sym next) (served_both s now c.serve.new.self front links c.loop-target.invariant.served served);
      taken = taken_behind s now front links c.loop-target.taken c.in_ok-taken.field-0 c.loop-target.invariant.served c.loop-target.invariant.taken taken ∙ ap (some_taken s.plan s.limits (system_in s)) (sym next);
    }

pub returns-clause-served : goal.returns-clause-served
returns-clause-served g c =
    let s : Serving = c.args.self.now in
    subst (λ (ls : List Link). Served s ls c.loop-target.self) (whole s c.len-targets.result c.loop-target.target c.loop-target.invariant.targets c.loop-target-test.false c.loop-target.auto.target-end) c.loop-target.invariant.served

pub returns-clause-taken : goal.returns-clause-taken
returns-clause-taken g c =
    let s : Serving = c.args.self.now in
    c.loop-target.invariant.taken
    ∙ ap (some_taken s.plan s.limits (system_in s)) (whole s c.len-targets.result c.loop-target.target c.loop-target.invariant.targets c.loop-target-test.false c.loop-target.auto.target-end)
    ∙ taken_where_waits s.plan s.limits (system_in s) (links_of s)

pub returns-clause-nothing : goal.returns-clause-nothing
returns-clause-nothing g c e =
    let s : Serving = c.args.self.now in
    let all = whole s c.len-targets.result c.loop-target.target c.loop-target.invariant.targets c.loop-target-test.false c.loop-target.auto.target-end in
    let none : some_waits s ≡ false = sym (taken_where_waits s.plan s.limits (system_in s) (links_of s)) ∙ ap (some_taken s.plan s.limits (system_in s)) (sym all) ∙ sym c.loop-target.invariant.taken ∙ e in
    nothing_waits s c.loop-target.self (subst (λ (ls : List Link). Served s ls c.loop-target.self) all c.loop-target.invariant.served) none

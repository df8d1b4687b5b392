use Rattle.std.proofs.Common.{◌≡◌, ap, sym, subst, ◌∙◌, ◌<◌, ℕ, map, length, All, List, Vec, Global}
use Rattle.std.proofs.lemmas.List.{length-map}
use Rattle.cell_links.specs.Ends.{poster_tag}
use Rattle.cell_links.specs.Making.{TargetsApart}
use Rattle.actor_cells.proofs.PrepareLemmas.{all-lawful, apart-all, cells-wired, count-cells, exist-all, get-within, new-posters, numbers_of, opening-at}
use Rattle.actor_cells.proofs.preparing.prepare.Goals as goal

pub connect-requires-clause-exist : goal.connect-requires-clause-exist
connect-requires-clause-exist c =
    let made = c.in_ok-targets.ensures in
    subst (λ (ts : List (Vec ℕ Global)). All (λ (t : Vec ℕ Global). All (λ (n : ℕ). n < length ts) t.items) ts) (sym c.as_slice.ensures.value) (exist-all (length c.args.plan.now.actors) c.args.plan.now.actors c.in_ok-targets.targets.items made.count made.targets)

pub connect-requires-clause-apart : goal.connect-requires-clause-apart
connect-requires-clause-apart c =
    let made = c.in_ok-targets.ensures in
    subst (λ (ts : List (Vec ℕ Global)). All (λ (t : Vec ℕ Global). TargetsApart t.items) ts) (sym c.as_slice.ensures.value) (apart-all (length c.args.plan.now.actors) c.args.plan.now.actors c.in_ok-targets.targets.items made.targets)

pub returns-clause-prepared : goal.returns-clause-prepared
returns-clause-prepared c =
    let a = c.args in
    let linked = c.in_ok-links.ensures in
    let made = c.in_ok-cells.ensures in
    let cells = c.in_ok-cells.cells.items in
    let links = c.in_ok-links.links.items in
    let posters = c.in_ok-links.posters.items in
    let all = map numbers_of c.in_ok-targets.targets.items in
    let slice : length c.as_slice.result.now ≡ length a.plan.now.actors = ap length c.as_slice.ensures.value ∙ c.in_ok-targets.ensures.count in
    let count = count-cells a.plan.now a.limits a.feeds a.ring cells links (map poster_tag posters) all made.actors made.inward made.outward linked.fresh (linked.actors ∙ slice) in
    record {
      count = count;
      opening = λ index x at. opening-at a.plan.now a.limits a.feeds a.ring cells links (map poster_tag posters) all made.actors made.inward made.outward linked.fresh index x (subst (λ (n : ℕ). index < n) count (get-within cells index x at)) at;
      feed_count = linked.posters;
      each = new-posters (length c.as_slice.result.now) (length a.plan.now.actors) a.ring posters slice linked.each;
    }

pub returns-clause-lawful : goal.returns-clause-lawful
returns-clause-lawful c =
    let a = c.args in
    let linked = c.in_ok-links.ensures in
    let made = c.in_ok-cells.ensures in
    let cells = c.in_ok-cells.cells.items in
    let links = c.in_ok-links.links.items in
    let posters = c.in_ok-links.posters.items in
    let all = map numbers_of c.in_ok-targets.targets.items in
    let slice : length c.as_slice.result.now ≡ length a.plan.now.actors = ap length c.as_slice.ensures.value ∙ c.in_ok-targets.ensures.count in
    all-lawful a.plan.now a.limits a.feeds a.ring cells links (map poster_tag posters) all made.actors made.inward made.outward linked.fresh c.requires.typed c.requires.limits (linked.actors ∙ slice) (length-map posters poster_tag ∙ linked.posters) linked.wired
    (linked.targets ∙ ap (map numbers_of) c.as_slice.ensures.value) c.in_ok-targets.ensures.targets

pub returns-clause-wired : goal.returns-clause-wired
returns-clause-wired c =
    let a = c.args in
    let linked = c.in_ok-links.ensures in
    let made = c.in_ok-cells.ensures in
    let posters = map poster_tag c.in_ok-links.posters.items in
    cells-wired a.plan.now a.limits a.feeds a.ring c.in_ok-cells.cells.items c.in_ok-links.links.items posters (map numbers_of c.in_ok-targets.targets.items) made.actors made.inward made.outward linked.fresh linked.wired

use Rattle.std.proofs.Common.{Bool, List, subst, sym}
use Rattle.feed_causes.specs.Search.{AreMarks}
use Rattle.feed_causes.proofs.SearchLemmas.{search_ended, search_less, search_on, search_starts}
use Rattle.feed_causes.proofs.search.marks_of.Goals as goal

pub looking-init : goal.looking-init
looking-init c =
    search_starts c.args.all.now c.args.place c.in_ok-marks.marks.items c.mark_taken.new.marks.items c.new-waiting.result c.mark_taken.new.waiting c.in_ok-marks.ensures c.new-waiting.ensures.empty
    c.in_ok-mark_taken.ensures.marks c.in_ok-mark_taken.ensures.waiting

pub looking-preserved : goal.looking-preserved
looking-preserved c =
    search_on c.args.all.now c.args.place c.looking.marks.items c.looking.waiting c.look.new.marks.items c.look.new.waiting c.in_ok-look.field-0 c.if-branch.true c.in_ok-look.ensures.looks c.looking.invariant

pub looking-smaller : goal.looking-smaller
looking-smaller c =
    search_less c.args.all.now c.looking.marks.items c.looking.waiting c.look.new.marks.items c.look.new.waiting c.in_ok-look.field-0 c.if-branch.true c.in_ok-look.ensures.looks

pub returns : goal.returns
returns c =
    let ended = search_ended c.args.all.now c.args.place c.looking.marks.items c.looking.waiting c.look.new.marks.items c.look.new.waiting c.in_ok-look.field-0 c.if-branch.false c.in_ok-look.ensures.looks c.looking.invariant in
    record { marks = subst (λ (marks : List Bool). AreMarks c.args.all.now c.args.place marks) (sym c.from_vec.ensures.same) ended }

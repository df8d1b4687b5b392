use Rattle.std.proofs.Common.{length, refl, sym, ap, subst, arith}
use Rattle.log_replay.specs.Check.{IsFirstFault}
use Rattle.log_replay.specs.Shared.{shown_run}
use Rattle.arrival_log.specs.LogText.{log_text}
use Rattle.log_replay.proofs.FoundLemmas.{found_first, found_small, lines_few}
use Rattle.log_replay.proofs.fault.first_fault.Goals as goal

pub posts_fault-kept-requires-clause-small : goal.posts_fault-kept-requires-clause-small
posts_fault-kept-requires-clause-small c =
    let few = lines_few c.args.plan.now c.args.run.now c.requires.typed c.requires.fits in
    omega (arith, few, ap length c.requires.text)

pub numbered-requires : goal.numbered-requires
numbered-requires c =
    let few = lines_few c.args.plan.now c.args.run.now c.requires.typed c.requires.fits in
    found_small c.args.plan.now c.args.run.now c.requires.typed c.requires.fits (shown_run c.args.run.now c.args.expected.now) c.requires.is_expected c.posts_fault-kept.result c.in_ok-parted.parted c.earlier-found.result (length c.args.bytes.now)
    c.posts_fault-kept.ensures c.in_ok-parted.ensures.few c.earlier-found.ensures (omega (arith, few, ap length c.requires.text)) (omega (arith))

pub returns : goal.returns
returns c =
    let expected = shown_run c.args.run.now c.args.expected.now in
    let first =
    found_first c.args.plan.now c.args.run.now c.requires.typed c.requires.fits expected c.requires.is_expected c.requires.expected_fits c.args.bytes.now (log_text c.args.plan.now expected) c.requires.text refl c.posts_fault-kept.result c.in_ok-parted.parted
    c.earlier-found.result c.posts_fault-kept.ensures c.in_ok-parted.ensures.lines c.earlier-found.ensures
    in record { first = subst (IsFirstFault c.args.plan.now c.args.run.now) (sym c.numbered.ensures) first }

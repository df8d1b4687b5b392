use Rattle.std.proofs.Common.{◌∙◌, ◌≡◌, ◌+◌, ◌≤◌, ℕ, List, ◌++◌, length, sym, ap, take, drop, arith, subst}
use Rattle.std.proofs.lemmas.List.{take-append-drop, length-drop, length-take-le}
use Rattle.join_base.specs.declared.outside.Failed.{Failed}
use Rattle.join_base.specs.Memory.{one_more}
use Rattle.counted_sink.specs.Counting.{WriteCount}
use Rattle.counted_sink.proofs.WriteLemmas.{Took, few_where_told, front_more, took_more, took_some, took_still}
use Rattle.counted_sink.proofs.write.write_all.Goals as goal

pub returns-in-Err-clause-told : goal.returns-in-Err-clause-told
returns-in-Err-clause-told g c =
    took_some (Unit {0}) (g.S.CountingSink.taken c.args.out.now) (g.S.CountingSink.taken c.pieces.out) (g.S.CountingSink.taken c.write.new.self) c.args.bytes.now (take c.pieces.done c.args.bytes.now) (drop c.pieces.done c.args.bytes.now)
    c.split_at.result.1.now c.in-Err.failed c.in-Err.failed (sym (take-append-drop c.pieces.done c.args.bytes.now)) c.pieces.invariant.told c.in-Err.ensures.told

pub returns-in-Err-clause-taken : goal.returns-in-Err-clause-taken
returns-in-Err-clause-taken g c =
    let size : length (take c.pieces.done c.args.bytes.now) ≡ c.pieces.done = length-take-le c.pieces.done c.args.bytes.now c.pieces.invariant.within in
    few_where_told (g.S.CountingSink.taken c.args.out.now) (g.S.CountingSink.taken c.write.new.self) (take c.pieces.done c.args.bytes.now) (g.S.CountingSink.writes c.args.out.now) (g.S.CountingSink.writes c.write.new.self) 1
    (took_still (g.S.CountingSink.taken c.args.out.now) (g.S.CountingSink.taken c.pieces.out) (g.S.CountingSink.taken c.write.new.self) (take c.pieces.done c.args.bytes.now) c.split_at.result.1.now c.in-Err.failed c.pieces.invariant.told c.in-Err.ensures.told)
    (omega (arith, size, c.pieces.invariant.few, ap (λ (w : WriteCount). w.made) c.in-Err.ensures.counted))

pub returns-in-Err-clause-stops : goal.returns-in-Err-clause-stops
returns-in-Err-clause-stops g c = record {
  one = ap (λ (w : WriteCount). w.failed) c.in-Err.ensures.counted ∙ ap one_more c.pieces.invariant.whole;
  latest = ap (λ (w : WriteCount). w.latest_failed) c.in-Err.ensures.counted;
}

pub pieces-preserved : goal.pieces-preserved
pieces-preserved g c =
    let piece : c.split_at.result.1.now ≡ drop c.pieces.done c.args.bytes.now = c.split_at.ensures.back in
    let size : length c.split_at.result.1.now ≡ length (drop c.pieces.done c.args.bytes.now) = ap length piece in
    let within : c.pieces.done + c.in-Ok.count ≤ length c.args.bytes.now = omega (arith, size, length-drop c.pieces.done c.args.bytes.now, c.in-Ok.ensures.count.1, c.pieces.invariant.within) in
    let more : Took (g.S.CountingSink.taken c.args.out.now) (g.S.CountingSink.taken c.write.new.self) (take c.pieces.done c.args.bytes.now ++ take c.in-Ok.count c.split_at.result.1.now) =
    took_more Failed (g.S.CountingSink.taken c.args.out.now) (g.S.CountingSink.taken c.pieces.out) (g.S.CountingSink.taken c.write.new.self) (take c.pieces.done c.args.bytes.now) c.split_at.result.1.now c.in-Ok.count c.pieces.invariant.told c.in-Ok.ensures.told in
    let P : List ℕ → Type 0 = λ (written : List ℕ). Took (g.S.CountingSink.taken c.args.out.now) (g.S.CountingSink.taken c.write.new.self) written in
    record {
      within = within;
      told = subst P (ap (λ (s : List ℕ). take c.pieces.done c.args.bytes.now ++ take c.in-Ok.count s) piece ∙ front_more c.args.bytes.now c.pieces.done c.in-Ok.count within) more;
      quiet = c.in-Ok.ensures.cause ∙ c.pieces.invariant.quiet;
      few = omega (arith, c.pieces.invariant.few, ap (λ (w : WriteCount). w.made) c.in-Ok.ensures.counted, c.in-Ok.ensures.count.0);
      whole = ap (λ (w : WriteCount). w.failed) c.in-Ok.ensures.counted ∙ c.pieces.invariant.whole;
    }

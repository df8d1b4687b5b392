use Rattle.std.proofs.Common.{◌∙◌, ◌+◌, ap, arith, drop, Some, List, ℕ, sym}
use Rattle.log_lines.proofs.CutLemmas.{cut_first, cut_not}
use Rattle.log_lines.proofs.parts.cut_line.Goals as goal

pub returns-in-None : goal.returns-in-None
returns-in-None c = record { parts = cut_not 10 c.args.bytes.now (λ j less. c.in-None.ensures j (omega arith) less); shorter = tt }

pub returns-in-Some : goal.returns-in-Some
returns-in-Some c =
    let place = c.in-Some.place in
    let text = c.args.bytes.now in
    let found = c.in-Some.ensures in
    record {
      parts =
          cut_first 10 text place found.0.high found.1 (λ j less. found.0.before j (omega arith) less)
          ∙ ap (λ (front : List ℕ). Some (front, drop (place + 1) text)) (sym c.split_at.ensures.front)
          ∙ ap (λ (back : List ℕ). Some (c.split_at.result.0.now, back)) (sym c.split_at-in-Some.ensures.back);
      shorter = let size = c.split_at-in-Some.ensures.back_len in omega (arith, size);
    }

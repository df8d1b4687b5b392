use Rattle.std.proofs.Common.{List, ℕ, ap, ◌∙◌}
use Rattle.script_names.specs.Scope.{message_rows}
use Rattle.script_faults.specs.First.{first_of}
use Rattle.script_faults.specs.Faults.{own_place, twice_declared}
use Rattle.script_faults.proofs.FindingLemmas.{outline_found}
use Rattle.script_faults.proofs.script.outline_fault.Goals as goal

pub returns : goal.returns
returns c =
    let names = c.names.ensures ∙ ap message_rows c.requires.messages in
    let many = rw c.as_slice.ensures.same at c.note_too_many.ensures in
    let twice = c.note_twice.ensures ∙ ap (λ (r : List (List ℕ × ℕ)). first_of c.note_too_many.new.found (twice_declared own_place r)) names in
    let messages = rw c.as_slice-2.ensures.same at c.in_ok-note_messages.ensures in
    let actors_many = rw c.as_slice-3.ensures.same at c.note_too_many-2.ensures in
    let actors_twice = c.note_twice-2.ensures ∙ ap (λ (r : List (List ℕ × ℕ)). first_of c.note_too_many-2.new.found (twice_declared own_place r)) c.requires.actors in
    outline_found c.args.outline.now c.note_too_many.new.found c.note_twice.new.found c.note_messages.new.found c.note_too_many-2.new.found c.note_twice-2.new.found many twice messages actors_many actors_twice

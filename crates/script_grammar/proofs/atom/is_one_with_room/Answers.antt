use Rattle.std.proofs.Common.{◌≡◌, length, arith}
use Rattle.script_grammar.proofs.GroupLemmas.{one_with_room}
use Rattle.script_grammar.proofs.atom.is_one_with_room.Goals as goal

pub returns-in-len1-clause-room : goal.returns-in-len1-clause-room
returns-in-len1-clause-room c = λ is.
    let one : length c.args.atoms.now ≡ 1 = omega arith in
    one_with_room c.args.atoms.now c.atom-item.result one c.atom-item.is (c.has_room.ensures is)

pub returns-in-len1-clause-one : goal.returns-in-len1-clause-one
returns-in-len1-clause-one c = λ is. omega arith

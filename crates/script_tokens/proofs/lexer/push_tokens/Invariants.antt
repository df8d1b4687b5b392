use Rattle.std.proofs.Common.{◌≡◌, ◌≤◌, ◌+◌, length, take}
use Rattle.script_tokens.specs.Tokens.{AreFront}
use Rattle.script_tokens.proofs.lexer.push_tokens.Given as goal

abbrev pub invariant-loop : goal.invariant-loop
invariant-loop l = record {
  shorter : length l.left + l.counter ≤ length l.rest;
  front : AreFront l.text l.tokens.items l.left;
  counted : length l.tokens.items ≡ length l.initial.tokens.items + l.counter;
  kept : take (length l.initial.tokens.items) l.tokens.items ≡ l.initial.tokens.items;
}

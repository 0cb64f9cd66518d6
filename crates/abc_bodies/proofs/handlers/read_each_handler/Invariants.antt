use Rattle.std.proofs.Common.{◌≤◌, ◌-◌, length}
use Rattle.std.specs.Prelude.{All}
use Rattle.abc_file_types.specs.Bodies.{handler, IsHandlerWithin}
use Rattle.abc_varint.proofs.Loop.{Going}
use Rattle.abc_bodies.proofs.handlers.read_each_handler.Given as goal

abbrev pub invariant-loop : goal.invariant-loop
invariant-loop g l = record {
  going : Going (handler l.sizes l.starts) l.count (l.count - l.counter) l.handlers l.initial.w (g.S.Source.left l.initial.source) l.w (g.S.Source.left l.source);
  later : g.S.Source.faults l.initial.source ≤ g.S.Source.faults l.source;
  within : All (IsHandlerWithin (length l.starts - 1)) l.handlers;
}

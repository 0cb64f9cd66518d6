use Rattle.std.proofs.Common.{◌≡◌, ◌-◌, ℕ, All, length, subst, arith}
use Rattle.abc_file_types.specs.Bodies.{IsHandlerWithin}
use Rattle.abc_file_types.specs.CodeBytes.{canonical_starts}
use Rattle.abc_file_types.proofs.Lengths.{canonical_count}
use Rattle.abc_bodies.proofs.put.put_fields.Goals as goal

pub put_handlers-requires-clause-some : goal.put_handlers-requires-clause-some
put_handlers-requires-clause-some c = rw c.requires.pieces.starts (omega (arith, canonical_count c.args.body.now.code))

pub put_handlers-requires-clause-within : goal.put_handlers-requires-clause-within
put_handlers-requires-clause-within c =
    let n : length c.args.body.now.code ≡ length (canonical_starts c.args.body.now.code) - 1 = omega (arith, canonical_count c.args.body.now.code) in
    rw c.requires.pieces.starts (subst (λ (m : ℕ). All (IsHandlerWithin m) c.args.body.now.handlers) n c.requires.ready.places)

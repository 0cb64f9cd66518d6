use Rattle.std.proofs.Common.{Ok, Err, arith}
use Rattle.std.specs.declared.result.Result.{Result}
use Rattle.abc_file_types.specs.declared.tables.Abc.{Abc}
use Rattle.abc_file_types.specs.Classes.{definitions}
use Rattle.abc_file_types.proofs.Exactness.{definitions-exact}
use Rattle.abc_varint.specs.declared.error.ReadError.{ReadError}
use Rattle.abc_varint.specs.declared.error.ReadError.TheVariants as errors
use Rattle.abc_varint.proofs.Answering.{answers}
use Rattle.abc_varint.proofs.Loop.{other_err}
use Rattle.abc_traits.specs.Definitions.{with_later_tables}
use Rattle.abc_traits.proofs.Filling.{fills_ok, fills_err}
use Rattle.abc_traits.proofs.definitions.read_definitions.Goals as goal

pub returns-in-Ok-clause-value : goal.returns-in-Ok-clause-value
returns-in-Ok-clause-value g c =
    let e = c.in-Ok.ensures in (
      fills_ok c.args.abc.now c.pool_sizes-pools.result c.args.w.now (g.S.Source.left c.args.source.now) c.read_tables.new.w (g.S.Source.left c.read_tables.new.source) c.in-Ok.found c.pool_sizes-pools.ensures e.0,
      λ err k. absurd (let h = (e.1 err k).0 in cc),
      e.2,
      λ k h. absurd cc,
      tt,
    )

pub returns-in-Ok-clause-answers : goal.returns-in-Ok-clause-answers
returns-in-Ok-clause-answers g c =
    let abc = c.args.abc.now in
    let w = c.args.w.now in
    let s = g.S.Source.left c.args.source.now in
    let w2 = c.read_tables.new.w in
    let s2 = g.S.Source.left c.read_tables.new.source in
    let r : Result Abc ReadError = Ok (with_later_tables abc c.in-Ok.found) in
    answers (definitions abc) (definitions-exact abc) w w2 s s2 r (omega (arith, c.place.ensures.is, c.place.ensures.bound))
    (fills_ok abc c.pool_sizes-pools.result w s w2 s2 c.in-Ok.found c.pool_sizes-pools.ensures c.in-Ok.ensures.0)

pub returns-in-Err-clause-value : goal.returns-in-Err-clause-value
returns-in-Err-clause-value g c =
    let e = c.in-Err.ensures in (
      fills_err c.args.abc.now c.pool_sizes-pools.result c.args.w.now (g.S.Source.left c.args.source.now) c.read_tables.new.w (g.S.Source.left c.read_tables.new.source) c.in-Err.e c.pool_sizes-pools.ensures e.0,
      λ err k. let h = e.1 err k in (other_err c.in-Err.e err h.0, h.1, h.2),
      e.2,
      λ k h. e.3 k (other_err c.in-Err.e errors.ReadFault h),
      e.4,
    )

pub returns-in-Err-clause-answers : goal.returns-in-Err-clause-answers
returns-in-Err-clause-answers g c =
    let abc = c.args.abc.now in
    let w = c.args.w.now in
    let s = g.S.Source.left c.args.source.now in
    let w2 = c.read_tables.new.w in
    let s2 = g.S.Source.left c.read_tables.new.source in
    let r : Result Abc ReadError = Err c.in-Err.e in
    answers (definitions abc) (definitions-exact abc) w w2 s s2 r (omega (arith, c.place.ensures.is, c.place.ensures.bound))
    (fills_err abc c.pool_sizes-pools.result w s w2 s2 c.in-Err.e c.pool_sizes-pools.ensures c.in-Err.ensures.0)

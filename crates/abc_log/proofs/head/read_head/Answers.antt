use Rattle.std.proofs.Common.{◌≡◌, ◌∙◌, arith, refl}
use Rattle.std.proofs.KnownBytes.{Consumes-nil}
use Rattle.std.proofs.lemmas.Result.{err_from_is_err_and}
use Rattle.abc_log.specs.Lines.{hex_digits}
use Rattle.abc_log.proofs.Standing.{behind_digits, digit_fits, digits_and, length-hex_digits, whole_head}
use Rattle.abc_log.proofs.Takings.{takes_behind}
use Rattle.abc_log.proofs.head.read_head.Goals as goal

pub loop-place-init : goal.loop-place-init
unfolding hex_digits
loop-place-init g c = record { taken = Consumes-nil (g.S.Source.left c.args.source.now); small = omega arith; later = omega arith; same = refl }

pub returns-in_err-digit-clause-stops : goal.returns-in_err-digit-clause-stops
returns-in_err-digit-clause-stops g c =
    let p = err_from_is_err_and c.from_residual.result c.from_residual.ensures.1 in
    let i = c.loop-place.invariant in
    rw (p.1, p.2) (behind_digits c.loop-place.place c.loop-place.length (g.S.Source.left c.args.source.now) (g.S.Source.left c.loop-place.source) c.in_err-digit.field-0.0 (omega arith) i.taken c.in_err-digit.ensures.stops)

pub overflow_mul-length : goal.overflow_mul-length
overflow_mul-length g c = omega (arith, (digit_fits c.loop-place.place c.loop-place.length 0 (omega arith) c.loop-place.invariant.small (omega arith)).0)

pub overflow_add-length : goal.overflow_add-length
overflow_add-length g c =
    let digit = c.in_ok-digit.ensures.digit.0 in
    omega (arith, (digit_fits c.loop-place.place c.loop-place.length c.from.result (omega arith) c.loop-place.invariant.small (omega (arith, digit, c.from.ensures))).0)

pub loop-place-preserved : goal.loop-place-preserved
loop-place-preserved g c =
    let digit = c.in_ok-digit.ensures.digit in
    let i = c.loop-place.invariant in
    rw c.from.ensures
    record {
      taken = digits_and c.loop-place.place c.loop-place.length c.in_ok-digit.digit (g.S.Source.left c.args.source.now) (g.S.Source.left c.loop-place.source) (g.S.Source.left c.read_digit.new.source) digit.0 i.taken digit.1;
      small = (digit_fits c.loop-place.place c.loop-place.length c.in_ok-digit.digit (omega arith) i.small digit.0).1;
      later = omega (arith, i.later, c.in_ok-digit.ensures.later);
      same = c.in_ok-digit.ensures.same ∙ i.same;
    }

pub returns-in_err-read_feed-clause-stops : goal.returns-in_err-read_feed-clause-stops
returns-in_err-read_feed-clause-stops g c =
    let p = err_from_is_err_and c.from_residual-in_err-read_feed.result c.from_residual-in_err-read_feed.ensures.1 in
    let i = c.loop-place.invariant in
    let far : c.loop-place.place ≡ 8 = omega arith in
    rw (p.1, p.2) (behind_digits 8 c.loop-place.length (g.S.Source.left c.args.source.now) (g.S.Source.left c.loop-place.source) c.in_err-read_feed.field-0.0 (omega arith) (rw far at i.taken) c.in_err-read_feed.ensures.stops)

pub returns-clause-head : goal.returns-clause-head
returns-clause-head g c =
    let i = c.loop-place.invariant in
    let far : c.loop-place.place ≡ 8 = omega arith in
    whole_head c.loop-place.length (g.S.Source.left c.args.source.now) (g.S.Source.left c.loop-place.source) (g.S.Source.left c.read_feed.new.source) (rw far at i.taken) c.in_ok-read_feed.ensures.feed

pub returns-in_err-digit-clause-taken : goal.returns-in_err-digit-clause-taken
returns-in_err-digit-clause-taken g c =
    takes_behind _ _ _ (hex_digits c.loop-place.place c.loop-place.length) 1 9 (omega (arith, length-hex_digits c.loop-place.place c.loop-place.length)) c.loop-place.invariant.taken c.in_err-digit.ensures.taken

pub returns-in_err-read_feed-clause-taken : goal.returns-in_err-read_feed-clause-taken
returns-in_err-read_feed-clause-taken g c =
    takes_behind _ _ _ (hex_digits c.loop-place.place c.loop-place.length) 1 9 (omega (arith, length-hex_digits c.loop-place.place c.loop-place.length)) c.loop-place.invariant.taken c.in_err-read_feed.ensures.taken

pub returns-clause-taken : goal.returns-clause-taken
returns-clause-taken g c =
    takes_behind _ _ _ (hex_digits c.loop-place.place c.loop-place.length) 1 9 (omega (arith, length-hex_digits c.loop-place.place c.loop-place.length)) c.loop-place.invariant.taken c.in_ok-read_feed.ensures.taken

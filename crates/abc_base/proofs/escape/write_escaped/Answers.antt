use Rattle.std.proofs.Common.{◌≡◌, ℕ, ◌+◌, ◌<◌, List, ◌++◌, ◌∷◌, length, take, drop, get_or, is_some, sym, ap, subst, ◌∙◌, suc, drop-cons, append_assoc, arith}
use Rattle.std.proofs.lemmas.List.{take-append-drop}
use Rattle.std.proofs.lemmas.List.Concat.{flat_map-cons}
use Rattle.std.proofs.lemmas.Grind.{flat_map-append}
use Rattle.std.specs.List.{flat_map}
use Rattle.std.specs.declared.option.Option.{Option}
use Rattle.std.specs.Io.KnownBytes.{append_known}
use Rattle.std.proofs.lemmas.Result.{err_from_is_err_and}
use Rattle.abc_base.specs.Sinks.{GrowsByFront}
use Rattle.abc_base.proofs.Writing.{front_first, front_second, known_told}
use Rattle.abc_base.specs.Escapes.{escape_of, with_escapes}
use Rattle.abc_base.proofs.escape.write_escaped.Goals as goal

-- what was written before a byte, its own bytes, and what comes after
parts : (xs : List ℕ) (i : ℕ) → i < length xs → (flat_map escape_of (take i xs) ++ escape_of (get_or xs i 0)) ++ flat_map escape_of (drop (suc i) xs) ≡ flat_map escape_of xs
parts xs i lt =
    let here : drop i xs ≡ get_or xs i 0 ∷ drop (suc i) xs = drop-cons xs i 0 lt in
    append_assoc (flat_map escape_of (take i xs)) (escape_of (get_or xs i 0)) (flat_map escape_of (drop (suc i) xs))
    ∙ ap (λ (t : List ℕ). flat_map escape_of (take i xs) ++ flat_map escape_of t) (sym here)
    ∙ sym (flat_map-append escape_of (take i xs) (drop i xs))
    ∙ ap (flat_map escape_of) (take-append-drop i xs)

front_in : (old mid new : Option (List ℕ)) (xs : List ℕ) (i : ℕ) → i < length xs → mid ≡ append_known old (flat_map escape_of (take i xs)) → GrowsByFront mid new (escape_of (get_or xs i 0)) → GrowsByFront old new (flat_map escape_of xs)
front_in old mid new xs i lt is f =
    let before = flat_map escape_of (take i xs) in
    let two = front_second old new before (escape_of (get_or xs i 0)) (subst (λ (m : Option (List ℕ)). GrowsByFront m new (escape_of (get_or xs i 0))) is f) in
    subst (GrowsByFront old new) (parts xs i lt) (front_first old new (before ++ escape_of (get_or xs i 0)) (flat_map escape_of (drop (suc i) xs)) two)

pub returns-in_err-write_escape-clause-bytes : goal.returns-in_err-write_escape-clause-bytes
unfolding with_escapes
returns-in_err-write_escape-clause-bytes g c = λ some.
    let p = err_from_is_err_and c.from_residual.result c.from_residual.ensures.1 in
    let before = c.loop-byte.invariant.written some in
    let told = ap is_some before ∙ known_told (g.K.Sink.written c.args.out.now) (flat_map escape_of (take c.loop-byte.byte-index c.args.bytes.now)) ∙ some in
    rw p.1 (front_in _ _ _ c.args.bytes.now c.loop-byte.byte-index c.loop-byte-test.true before (c.in_err-write_escape.ensures.bytes told))

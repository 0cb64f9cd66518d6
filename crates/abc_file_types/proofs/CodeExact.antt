-- Code is exact, as the sums say it.
use Rattle.std.proofs.Common.{◌≡◌, ℕ, zero, suc, ◌+◌, ◌<◌, ◌≤◌, inl, inr, List, [], ◌∷◌, length, Ok, Err, refl, sym, ap, subst, ◌∙◌, arith}
use Rattle.std.specs.List.{All}
use Rattle.abc_file_types.specs.declared.reason.Reason.TheVariants as reasons
use Rattle.abc_file_types.specs.Part.{At, Refusal, refusal, Begins, limit, map_or_refuse}
use Rattle.abc_file_types.specs.Law.{Exact}
use Rattle.abc_file_types.specs.Ends.{Pieces, BadPiece, blame_first}
use Rattle.abc_file_types.proofs.Exact.{bind_ok, bind_err, image-exact, then-exact, refined-exact}
use Rattle.abc_file_types.proofs.Within.{fill_pieces, pieces_fill}
use Rattle.abc_file_types.proofs.BadPieces.{fill_bad, bad_fill}
use Rattle.abc_file_types.specs.declared.instructions.Code.{Code}
use Rattle.abc_file_types.specs.Instructions.{RawInstr, instruction, pieces}
use Rattle.abc_file_types.specs.Starts.{starts, AreStarts}
use Rattle.abc_file_types.specs.Targets.{instrs_of, resolve_targets}
use Rattle.abc_file_types.specs.Code.{SpellsCode, code_body, code, code_listing}
use Rattle.abc_file_types.proofs.CodeParts.{instruction-some, pieces-exact, code_length-exact}
use Rattle.abc_file_types.proofs.Meaning.{starts_are, starts_same, means_all, means_again, misses_all, misses_again}

-- a piece is the same where the end is told otherwise
unblamed : (ps : List (RawInstr × ℕ)) (b : List ℕ) → Pieces (blame_first instruction) ps b → Pieces instruction ps b
unblamed [] b s = s
unblamed (x ∷ xs) b s = (s.0, s.1, s.2, s.3, s.4, unblamed xs s.1 s.5)

pub blamed_pieces : (ps : List (RawInstr × ℕ)) (b : List ℕ) → Pieces instruction ps b → Pieces (blame_first instruction) ps b
blamed_pieces [] b s = s
blamed_pieces (x ∷ xs) b s = (s.0, s.1, s.2, s.3, s.4, blamed_pieces xs s.1 s.5)

pub all_long : (ps : List (RawInstr × ℕ)) (b : List ℕ) → Pieces instruction ps b → All (λ p. 0 < p.1) ps
all_long [] b s = λ k d lt. absurd (omega arith)
all_long (x ∷ xs) b s = long_cons x xs (omega (arith, instruction-some.some x.0 s.0 s.3, s.4)) (all_long xs s.1 s.5) where
  long_cons : (x : RawInstr × ℕ) (xs : List (RawInstr × ℕ)) → 0 < x.1 → All (λ p. 0 < p.1) xs → All (λ p. 0 < p.1) (x ∷ xs)
  long_cons x xs one all zero d lt = one
  long_cons x xs one all (suc k) d lt = all k d (omega arith)

resolve_ok : (ps : List (RawInstr × ℕ)) (c : Code) → resolve_targets ps ≡ Ok c → (instrs_of (starts 0 ps) 0 ps ≡ Ok c.instrs) × (c.offsets ≡ starts 0 ps)
unfolding resolve_targets
resolve_ok ps c e =
    let a = bind_ok (instrs_of (starts 0 ps) 0 ps) (λ is. Ok (record { instrs = is; offsets = starts 0 ps })) c e in
    let made : Code = record { instrs = a.0; offsets = starts 0 ps } in
    let same : made ≡ c = let f = a.2 in cc in
    (a.1 ∙ ap (λ (d : Code). Ok d.instrs) same, ap (λ (d : Code). d.offsets) (sym same))

resolve_again : (ps : List (RawInstr × ℕ)) (c : Code) → instrs_of (starts 0 ps) 0 ps ≡ Ok c.instrs → c.offsets ≡ starts 0 ps → resolve_targets ps ≡ Ok c
unfolding resolve_targets
resolve_again ps c e o = rw (e, ← o) refl

resolve_err : (ps : List (RawInstr × ℕ)) (d : Refusal) → resolve_targets ps ≡ Err d → instrs_of (starts 0 ps) 0 ps ≡ Err d
unfolding resolve_targets
resolve_err ps d e =
    elim (bind_err (instrs_of (starts 0 ps) 0 ps) (λ is. Ok (record { instrs = is; offsets = starts 0 ps })) d e) [ inl h ↦ h | inr a ↦ absurd (let f = a.2 in cc) ]

resolve_refuses : (ps : List (RawInstr × ℕ)) (d : Refusal) → instrs_of (starts 0 ps) 0 ps ≡ Err d → resolve_targets ps ≡ Err d
unfolding resolve_targets
resolve_refuses ps d e = rw e refl

-- the pieces of a front
filled : (n : ℕ) (ps : List (RawInstr × ℕ)) (b : List ℕ) → (pieces n).spells ps b → Pieces instruction ps b × (length b ≡ n)
unfolding pieces
filled n ps b s = let f = fill_pieces n n (blame_first instruction) instruction-some (omega arith) ps b s in (unblamed ps b f.0, f.1)

fills : (n : ℕ) (ps : List (RawInstr × ℕ)) (b : List ℕ) → Pieces instruction ps b → length b ≡ n → (pieces n).spells ps b
unfolding pieces
fills n ps b s len = pieces_fill n n (blame_first instruction) instruction-some (omega arith) ps b (blamed_pieces ps b s) len

piece_refused : (n : ℕ) (from : At) (r : Refusal) → from.place ≤ limit → (pieces n).bad from r → BadPiece n (blame_first instruction) from r
unfolding pieces
piece_refused n from r k h = fill_bad n n (blame_first instruction) from r k instruction-some (omega arith) h

piece_refuses : (n : ℕ) (from : At) (r : Refusal) → BadPiece n (blame_first instruction) from r → (pieces n).bad from r
unfolding pieces
piece_refuses n from r h = bad_fill n n (blame_first instruction) from r instruction-some (omega arith) h

module _ (n : ℕ) where
  plain : Exact (map_or_refuse resolve_targets (pieces n))
  plain = refined-exact resolve_targets (pieces n) (pieces-exact n)

  code_body_found : (from : At) (c : Code) (after : At) → from.place ≤ limit → (code_body n).reads from ≡ Ok (c, after) → Begins (code_body n) from c after
  unfolding code_body
  code_body_found from c after k e =
      let b = plain.found from c after k e in
      let f = filled n b.spelled.0 b.front b.spelled.1 in
      let r = resolve_ok b.spelled.0 c b.spelled.2 in
      let s : SpellsCode c b.front = record { pieces = b.spelled.0; filled = f.0; means = means_all b.spelled.0 (all_long b.spelled.0 b.front f.0) 0 b.spelled.0 c.instrs r.0; offsets = subst (λ (os : List ℕ). AreStarts b.spelled.0 os) (sym r.1) (starts_are b.spelled.0) } in
      record { front = b.front; spelled = (s, f.1); is = b.is }

  code_body_again : (from : At) (c : Code) (after : At) → Begins (code_body n) from c after → (code_body n).reads from ≡ Ok (c, after)
  unfolding code_body
  code_body_again from c after b =
      let s = b.spelled.0 in
      let r : resolve_targets s.pieces ≡ Ok c = resolve_again s.pieces c (means_again s.pieces (all_long s.pieces b.front s.filled) 0 s.pieces c.instrs s.means) (starts_same s.pieces c.offsets s.offsets) in
      plain.again from c after (record { front = b.front; spelled = (s.pieces, fills n s.pieces b.front s.filled b.spelled.1, r); is = b.is })

  code_body_refused : (from : At) (r : Refusal) → from.place ≤ limit → (code_body n).reads from ≡ Err r → (code_body n).bad from r
  unfolding code_body
  code_body_refused from r k e =
      elim (plain.refused from r k e) [
        | inl h ↦ inl (piece_refused n from r k h)
        | inr a ↦
            let f = filled n a.0 a.2.front a.2.spelled in
            let m = misses_all a.0 (all_long a.0 a.2.front f.0) 0 a.0 a.3 (resolve_err a.0 a.3 a.4) in
            let reason : a.3.reason ≡ reasons.Target = m.1 in
            inr (record { pieces = a.0; front = a.2.front; after = a.1; filled = f.0; full = f.1; is = a.2.is; offset = a.3.place; misses = m.0; says = a.5 ∙ ap (refusal (from.place + a.3.place)) reason })
      ]

  code_body_refuses : (from : At) (r : Refusal) → (code_body n).bad from r → (code_body n).reads from ≡ Err r
  unfolding code_body
  code_body_refuses from r b =
      elim b [
        | inl h ↦ plain.refuses from r (inl (piece_refuses n from r h))
        | inr a ↦
            let e : resolve_targets a.pieces ≡ Err (refusal a.offset reasons.Target) = resolve_refuses a.pieces (refusal a.offset reasons.Target) (misses_again a.pieces (all_long a.pieces a.front a.filled) 0 a.pieces a.offset a.misses) in
            plain.refuses from r (inr (a.pieces, a.after, record { front = a.front; spelled = fills n a.pieces a.front a.filled a.full; is = a.is }, refusal a.offset reasons.Target, e, a.says))
      ]

  pub code_body-exact : Exact (code_body n)
  code_body-exact = record { found = code_body_found; again = code_body_again; refused = code_body_refused; refuses = code_body_refuses }

pub code-exact : Exact code
unfolding code
code-exact = image-exact _ _ (then-exact _ _ code_length-exact code_body-exact)

pub code_listing-exact : Exact code_listing
unfolding code_listing
code_listing-exact = image-exact _ _ code-exact

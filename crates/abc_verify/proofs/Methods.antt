-- Methods and their bodies.
use Rattle.std.proofs.Common.{◌≡◌, ℕ, zero, suc, ◌+◌, ◌<◌, List, [], ◌∷◌, Some, None, true, length, map, get_or, nat_eq, refl, sym, ap, ◌∙◌, subst, arith, inl, inr, eq-eqb, eqb-true, below_more}
use Rattle.std.proofs.lemmas.Bool.{cases_lt}
use Rattle.std.proofs.lemmas.List.{length-map}
use Rattle.abc_tables.proofs.BodiesFit.{bodies_fit, methods_below}
use Rattle.abc_tables.proofs.FileFits.{file_fits, tables_fit}
use Rattle.abc_verify_flow.specs.Walking.{RefusedBy}
use Rattle.abc_verify_flow.specs.declared.step.Refusal.{Refusal}
use Rattle.abc_verify_flow.specs.declared.step.Refusal.TheVariants as flows
use Rattle.abc_link_names.specs.Linked.{IsLinkedFile, LinkedFile}
use Rattle.abc_link_names.specs.Owners.{body_of}
use Rattle.abc_link_names.specs.Methods.{methods_with_bodies}
use Rattle.abc_link_names.specs.PartsByNumber.{body_at, no_body}
use Rattle.abc_link_names.proofs.ItemsPairs.{first_found, first_hit}
use Rattle.abc_file_types.specs.Classes.{sizes_of}
use Rattle.abc_file_types.specs.Files.{Fits}
use Rattle.abc_file_types.specs.declared.code.Body.{Body}
use Rattle.abc_file_types.specs.declared.tables.Abc.{Abc}
use Rattle.abc_verify_typing.specs.Routines.{routine}
use Rattle.abc_verify_typing.specs.Typing.{HasTyping}
use Rattle.abc_verify_typing.proofs.Good.{good}
use Rattle.abc_verify_typing.proofs.Exact.{typed_not_refuted}
use Rattle.abc_verify.specs.VerifyRefusing.{IsVerifyRefusal, refused_of}
use Rattle.abc_verify.specs.Typed.{AllTyped, AreTyped, IsTyped, IsVerified}
use Rattle.abc_verify.specs.declared.verify_error.VerifyError.{VerifyError}

-- ---- bodies

mapped : (xs : List Body) (i : ℕ) → i < length xs → get_or (map (λ (x : Body). x.method) xs) i 0 ≡ (get_or xs i no_body).method
mapped [] i h = absurd (omega arith)
mapped (x ∷ xs) zero h = refl
mapped (x ∷ xs) (suc i) h = mapped xs i (omega arith)

-- each body is of a method of the file, and no two are of one
record HasOwnMethods (v : Abc) : Type 0 where
  known : (b : ℕ) → b < length v.bodies → (body_at v b).method < length v.methods
  apart : (a b : ℕ) → a < length v.bodies → b < length v.bodies → (body_at v a).method ≡ (body_at v b).method → a ≡ b

own_methods : (v : Abc) → Fits v → HasOwnMethods v
own_methods v fits =
    let f = (bodies_fit v).0 ((tables_fit v).0 ((file_fits v).0 fits).1).2 in
    record {
      known = λ b lt. methods_below (sizes_of v) v.bodies f.1 b no_body lt;
      apart = λ a b la lb e. elim (cases_lt a b) [
        | inl lt ↦ absurd (f.2 a b no_body lt lb e)
        | inr le ↦ elim (cases_lt b a) [ inl gt ↦ absurd (f.2 b a no_body gt la (sym e)) | inr ge ↦ omega arith ]
      ];
    }

-- each body is that of its method
own_body : (v : Abc) → HasOwnMethods v → (b : ℕ) → b < length v.bodies → body_of v (body_at v b).method ≡ Some b
own_body v own b lt =
    let m = (body_at v b).method in
    let long : length (methods_with_bodies v) ≡ length v.bodies = length-map v.bodies (λ (x : Body). x.method) in
    let hit : nat_eq m (get_or (methods_with_bodies v) b 0) ≡ true = eq-eqb m (get_or (methods_with_bodies v) b 0) (sym (mapped v.bodies b lt)) in
    let f = first_found (nat_eq m) (methods_with_bodies v) 0 b (omega (arith, long)) hit in
    let h = first_hit (nat_eq m) (methods_with_bodies v) 0 f.0 f.1 in
    let low : f.0 < length v.bodies = let z = h.0 in omega (arith, long, z) in
    let same : m ≡ (body_at v f.0).method = eqb-true m (get_or (methods_with_bodies v) f.0 0) h.1 ∙ mapped v.bodies f.0 low in
    f.1 ∙ ap (λ (i : ℕ). Some i) (own.apart f.0 b low lt (sym same))

pub all_typed : (l : LinkedFile) → IsLinkedFile l → IsVerified l → AllTyped l
all_typed l t h = λ b lt. let own = own_methods l.file t.fits in h (body_at l.file b).method (own.known b lt) b (own_body l.file own b lt)

-- ---- one method

pub is_typed : (l : LinkedFile) (m b : ℕ) → body_of l.file m ≡ Some b → HasTyping l (routine l b) → IsTyped l m
is_typed l m b e h = λ k f. (let q : b ≡ k = cc in subst (λ (i : ℕ). HasTyping l (routine l i)) q h)

pub not_typed : (l : LinkedFile) (m : ℕ) → body_of l.file m ≡ None → IsTyped l m
not_typed l m e = λ b f. absurd cc

pub refused : (l : LinkedFile) (m b : ℕ) (e : Refusal) (x : VerifyError) → IsLinkedFile l → m < length l.file.methods → AreTyped l m → body_of l.file m ≡ Some b → RefusedBy l (routine l b) e → x ≡ refused_of m b e → IsVerifyRefusal l x
refused l m b e x t lt before is h q = subst (IsVerifyRefusal l) (sym q) (go e h)
  where
    go : (e : Refusal) → RefusedBy l (routine l b) e → IsVerifyRefusal l (refused_of m b e)
    go flows.NoMemory h = tt
    go (flows.Refused i r) h = (lt, before, record { of_method = is; refuted = h; untyped = λ y. typed_not_refuted l (routine l b) (good l t) y (i, (r, h)) })

-- ---- all methods

pub none_typed : (l : LinkedFile) → AreTyped l 0
none_typed l = λ m h. absurd (omega arith)

pub more_typed : (l : LinkedFile) (m : ℕ) → AreTyped l m → IsTyped l m → AreTyped l (m + 1)
more_typed l m h one = below_more (λ (k : ℕ). IsTyped l k) m h one

pub whole : (l : LinkedFile) (n : ℕ) → n ≡ length l.file.methods → AreTyped l n → IsVerified l
whole l n e h = subst (λ (k : ℕ). AreTyped l k) e h

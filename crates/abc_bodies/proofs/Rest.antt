-- What follows the sizes of a body is passed part by part.
use Rattle.std.proofs.Common.{◌≡◌, ℕ, Bool, List, ◌++◌, length, map, Ok, Err, refl, sym, ap, subst, ◌∙◌, append_assoc, arith}
use Rattle.std.specs.declared.option.Option.{Option}
use Rattle.abc_file_types.specs.Canonical.{counted_bytes}
use Rattle.abc_file_types.specs.Lists.{count_and_items}
use Rattle.abc_file_types.specs.Numbers.{u30}
use Rattle.abc_file_types.specs.Part.{At, refusal}
use Rattle.abc_file_types.specs.declared.code.Handler.{Handler}
use Rattle.abc_file_types.specs.declared.instructions.Code.{Code}
use Rattle.abc_file_types.specs.declared.tables.Sizes.{Sizes}
use Rattle.abc_file_types.specs.Bodies.{body_with, handler, handler_bytes}
use Rattle.abc_file_types.specs.Code.{code}
use Rattle.abc_file_types.specs.CodeBytes.{canonical_starts, code_bytes}
use Rattle.abc_file_types.specs.Traits.{trait_bytes, trait_info}
use Rattle.abc_varint.specs.declared.error.ReadError.{ReadError}
use Rattle.abc_varint.specs.declared.error.ReadError.TheVariants as errors
use Rattle.abc_varint.specs.Passes.{Passes, nothing_told}
use Rattle.abc_varint.specs.Reads.{FailsReading, Input, IsInput, stand}
use Rattle.abc_varint.specs.View.{View}
use Rattle.abc_instr.specs.Marks.{moved_in}
use Rattle.abc_bodies.specs.Moved.{moved_bytes, moved_handler}
use Rattle.abc_bodies.specs.Reading.{free_body, free_method, part_behind_sizes, rest_bytes}
use Rattle.abc_bodies.proofs.Moving.{Mapped, bytes_moved, handlers_move, mapped, move, unmapped}

abbrev code_of : Code → List ℕ
code_of c = code_bytes c.instrs

pub code_fails : (e : ReadError) (v : Sizes) (from : At) → FailsReading e (code.reads from) → FailsReading e ((part_behind_sizes v).reads from)
unfolding part_behind_sizes
code_fails (errors.Refused place reason) v from f = rw f refl
code_fails errors.ReadFault v from f = tt
code_fails errors.NoMemory v from f = tt

handlers_refused : (e : ReadError) (v : Sizes) (c : Code) (from a : At) → code.reads from ≡ Ok (c, a) → FailsReading e ((count_and_items (handler v c.offsets)).reads a) → FailsReading e ((part_behind_sizes v).reads from)
unfolding part_behind_sizes
handlers_refused (errors.Refused place reason) v c from a r f = rw (r, f) refl
handlers_refused errors.ReadFault v c from a r f = tt
handlers_refused errors.NoMemory v c from a r f = tt

traits_refused : (e : ReadError) (v : Sizes) (c : Code) (from a b : At) (hs : List _) → code.reads from ≡ Ok (c, a) → (count_and_items (handler v c.offsets)).reads a ≡ Ok (hs, b) → FailsReading e ((count_and_items (trait_info v)).reads b) → FailsReading e ((part_behind_sizes v).reads from)
unfolding part_behind_sizes
traits_refused (errors.Refused place reason) v c from a b hs r h f = rw (r, h, f) refl
traits_refused errors.ReadFault v c from a b hs r h f = tt
traits_refused errors.NoMemory v c from a b hs r h f = tt

-- what is refused as moved is refused
unmoved : (e : ReadError) (v : Sizes) (c : Code) (marks : ℕ → Option ℕ) (from : At) → marks ≡ moved_in c → FailsReading e ((count_and_items (moved_handler v marks)).reads from) → FailsReading e ((count_and_items (handler v c.offsets)).reads from)
unmoved (errors.Refused place reason) v c marks from same f =
    let os = c.offsets in
    let ms = canonical_starts c.instrs in
    let h = subst (λ (m : ℕ → Option ℕ). (count_and_items (moved_handler v m)).reads from ≡ Err (refusal place reason)) same f in
    unmapped (map (move os ms)) ((count_and_items (handler v os)).reads from) (refusal place reason) (sym (handlers_move os ms v from) ∙ h)
unmoved errors.ReadFault v c marks from same f = tt
unmoved errors.NoMemory v c marks from same f = tt

-- what is read as moved is read, and then moved
read_moved : (v : Sizes) (c : Code) (marks : ℕ → Option ℕ) (from after : At) (hs : List Handler) → marks ≡ moved_in c → (count_and_items (moved_handler v marks)).reads from ≡ Ok (hs, after)
    → Mapped (map (move c.offsets (canonical_starts c.instrs))) ((count_and_items (handler v c.offsets)).reads from) hs after
read_moved v c marks from after hs same e =
    let os = c.offsets in
    let ms = canonical_starts c.instrs in
    let h = subst (λ (m : ℕ → Option ℕ). (count_and_items (moved_handler v m)).reads from ≡ Ok (hs, after)) same e in
    mapped (map (move os ms)) ((count_and_items (handler v os)).reads from) hs after (sym (handlers_move os ms v from) ∙ h)

module _ (v : Sizes) (marks : ℕ → Option ℕ) (old b1 : List ℕ) (w : View) (s : Option (List ℕ)) (w1 : View) (s1 : Option (List ℕ)) (p : Passes code code_of moved_in w s w1 s1 old b1 (Ok marks)) where
  pub handlers_fail : (e : ReadError) (input : Input) → IsInput w1 s1 input × FailsReading e ((count_and_items (moved_handler v marks)).reads (stand w1 input)) → IsInput w s input × FailsReading e ((part_behind_sizes v).reads (stand w input))
  handlers_fail e input f =
      let a = p.4 input f.0 in
      let x = a.1 in
      (a.0, handlers_refused e v x.value (stand w input) (stand w1 input) x.read (unmoved e v x.value marks (stand w1 input) x.tells f.1))

  module _ (b2 : List ℕ) (n : ℕ) (w2 : View) (s2 : Option (List ℕ)) (q : Passes (count_and_items (moved_handler v marks)) (counted_bytes moved_bytes) length w1 s1 w2 s2 b1 b2 (Ok n)) where
    pub traits_fail : (e : ReadError) (input : Input) → IsInput w2 s2 input × FailsReading e ((count_and_items (trait_info v)).reads (stand w2 input)) → IsInput w s input × FailsReading e ((part_behind_sizes v).reads (stand w input))
    traits_fail e input f =
        let b = q.4 input f.0 in
        let a = p.4 input b.0 in
        let x = a.1 in
        let y = b.1 in
        let h = read_moved v x.value marks (stand w1 input) (stand w2 input) y.value x.tells y.read in
        (a.0, traits_refused e v x.value (stand w input) (stand w1 input) (stand w2 input) h.value x.read h.read f.1)

    pub rest_passes : (new : List ℕ) (m : ℕ) (w3 : View) (s3 : Option (List ℕ)) → Passes (count_and_items (trait_info v)) (counted_bytes trait_bytes) length w2 s2 w3 s3 b2 new (Ok m) → Passes (part_behind_sizes v) rest_bytes nothing_told w s w3 s3 old new (Ok tt)
    unfolding part_behind_sizes rest_bytes
    rest_passes new m w3 s3 r = (
      p.0,
      r.1,
      omega (arith, p.2, q.2, r.2),
      r.3 ∙ q.3 ∙ p.3,
      λ input is.
          let d = r.4 input is in
          let b = q.4 input d.0 in
          let a = p.4 input b.0 in
          let x = a.1 in
          let y = b.1 in
          let z = d.1 in
          let os = x.value.offsets in
          let ms = canonical_starts x.value.instrs in
          let h = read_moved v x.value marks (stand w1 input) (stand w2 input) y.value x.tells y.read in
          let puts : b2 ≡ b1 ++ counted_bytes (handler_bytes ms) h.value = y.bytes ∙ ap (λ (l : List ℕ). b1 ++ l) (ap (counted_bytes moved_bytes) h.is ∙ bytes_moved os ms h.value) in (
            a.0,
            record {
              value = (x.value, (h.value, z.value));
              read = rw (x.read, h.read, z.read) refl;
              bytes = z.bytes ∙ rw (puts, x.bytes) (simp append_assoc);
              tells = refl;
            },
          ),
    )

-- ---- a body, after its method and its four sizes

pub rest_fails : (e : ReadError) (v : Sizes) (flags : List Bool) (m a b c d : ℕ) (from a1 a2 a3 a4 a5 : At) → (free_method v flags).reads from ≡ Ok (m, a1) → u30.reads a1 ≡ Ok (a, a2) → u30.reads a2 ≡ Ok (b, a3) → u30.reads a3 ≡ Ok (c, a4)
    → u30.reads a4 ≡ Ok (d, a5) → FailsReading e ((part_behind_sizes v).reads a5) → FailsReading e ((free_body v flags).reads from)
unfolding free_body body_with part_behind_sizes
rest_fails (errors.Refused place reason) v flags m a b c d from a1 a2 a3 a4 a5 r1 r2 r3 r4 r5 f = rw (r1, r2, r3, r4, r5, f) refl
rest_fails errors.ReadFault v flags m a b c d from a1 a2 a3 a4 a5 r1 r2 r3 r4 r5 f = tt
rest_fails errors.NoMemory v flags m a b c d from a1 a2 a3 a4 a5 r1 r2 r3 r4 r5 f = tt

-- What holds of an input, by what stands behind its file.
use Rattle.std.proofs.Common.{◌≡◌, ◌⊎◌, ℕ, ◌-◌, ◌<◌, ◌≤◌, ◌^◌, min, List, [], ◌++◌, length, take, drop, Some, None, inl, inr, refl, sym, ap, ◌∙◌, arith, length-drop, length-take, take-append-drop, take_all}
use Rattle.std.proofs.Math.Seq.{drop-append_seam, take-append_seam}
use Rattle.std.proofs.lemmas.List.{append-nil, drop_all}
use Rattle.std.specs.Io.KnownBytes.{Consumes, IsAtEnd}
use Rattle.std.specs.declared.option.Option.{Option}
use Rattle.abc_file.specs.Reading.{OfInput}
use Rattle.abc_log.specs.Lines.{head_line}
use Rattle.abc_replay.specs.Prefaces.{HasFile}
use Rattle.abc_replay.specs.Replays.{HasLogParts}

-- ---- the parts of an input

pub parts_told : (bytes rest : List ℕ) → length bytes < 2 ^ 32 → HasLogParts (head_line (length bytes) ++ (bytes ++ rest)) bytes rest
parts_told bytes rest low = record { stated = length bytes; following = bytes ++ rest; low = low; is = refl; file_is = sym (take-append_seam bytes rest); rest_is = sym (drop-append_seam bytes rest) }

parts_full : (input ys bytes rest : List ℕ) (stated : ℕ) → stated < 2 ^ 32 → input ≡ head_line stated ++ ys → ys ≡ bytes ++ rest → length bytes ≡ stated → HasLogParts input bytes rest
parts_full input ys bytes rest stated low head part same = record {
  stated = stated;
  following = ys;
  low = low;
  is = head;
  file_is = sym (take-append_seam bytes rest) ∙ ap (take (length bytes)) (sym part) ∙ ap (λ (n : ℕ). take n ys) same;
  rest_is = sym (drop-append_seam bytes rest) ∙ ap (drop (length bytes)) (sym part) ∙ ap (λ (n : ℕ). drop n ys) same;
}

parts_short : (input ys bytes rest : List ℕ) (stated : ℕ) → stated < 2 ^ 32 → input ≡ head_line stated ++ ys → ys ≡ bytes ++ rest → length bytes ≤ stated → rest ≡ [] → HasLogParts input bytes rest
parts_short input ys bytes rest stated low head part few none =
    let all : ys ≡ bytes = part ∙ ap (λ (l : List ℕ). bytes ++ l) none ∙ append-nil bytes in
    let short : length ys ≤ stated = omega (arith, ap length all, few) in
    record { stated = stated; following = ys; low = low; is = head; file_is = sym all ∙ sym (take_all stated ys short); rest_is = none ∙ sym (drop_all stated ys short) }

parts_read : (input ys bytes rest : List ℕ) (stated : ℕ) → stated < 2 ^ 32 → input ≡ head_line stated ++ ys → ys ≡ bytes ++ rest → length bytes ≤ stated → (length bytes ≡ stated) ⊎ IsAtEnd (Some rest) → HasLogParts input bytes rest
parts_read input ys bytes rest stated low head part few (inl same) = parts_full input ys bytes rest stated low head part same
parts_read input ys bytes rest stated low head part few (inr none) = parts_short input ys bytes rest stated low head part few none

parts_taken : (xs rest bytes : List ℕ) (mid : Option (List ℕ)) (stated : ℕ) → stated < 2 ^ 32 → Consumes (Some xs) mid (head_line stated) → Consumes mid (Some rest) bytes → length bytes ≤ stated → (length bytes ≡ stated) ⊎ IsAtEnd (Some rest) → HasLogParts xs bytes rest
parts_taken xs rest bytes None stated low head part few end = absurd head
parts_taken xs rest bytes (Some ys) stated low head part few end = parts_read xs ys bytes rest stated low head part few end

pub none_taken : (xs bytes : List ℕ) (mid : Option (List ℕ)) (stated : ℕ) → Consumes (Some xs) mid (head_line stated) → Consumes mid None bytes → ⊥
none_taken xs bytes None stated head part = head
none_taken xs bytes (Some ys) stated head part = part

-- what follows from the parts and from what holds behind the file holds of the input
pub lifted : (old new : Option (List ℕ)) (bytes : List ℕ) → HasFile old new bytes → (P Q : List ℕ → Type 0) → ((input rest : List ℕ) → HasLogParts input bytes rest → Q rest → P input) → OfInput new Q → OfInput old P
lifted None None bytes f P Q go x = (head_line (length bytes) ++ (bytes ++ x.0), go (head_line (length bytes) ++ (bytes ++ x.0)) x.0 (parts_told bytes x.0 (omega (arith, f.few, f.low))) x.1)
lifted None (Some rest) bytes f P Q go x = (head_line (length bytes) ++ (bytes ++ rest), go (head_line (length bytes) ++ (bytes ++ rest)) rest (parts_told bytes rest (omega (arith, f.few, f.low))) x)
lifted (Some xs) None bytes f P Q go x = absurd (none_taken xs bytes f.mid f.stated f.head f.part)
lifted (Some xs) (Some rest) bytes f P Q go x = go xs rest (parts_taken xs rest bytes f.mid f.stated f.low f.head f.part f.few f.end) x

-- a file has no more bytes than are stated
pub few_bytes : (input bytes rest : List ℕ) → HasLogParts input bytes rest → length bytes < 2 ^ 32
few_bytes input bytes rest p =
    let count : length bytes ≡ min p.stated (length p.following) = ap length p.file_is ∙ length-take p.stated p.following in
    omega (arith, count, p.low)

-- where something stands behind the file, the stated length is that of the file
pub filled : (input bytes rest : List ℕ) → HasLogParts input bytes rest → 0 < length rest → input ≡ head_line (length bytes) ++ (bytes ++ rest)
filled input bytes rest p some =
    let count : length bytes ≡ min p.stated (length p.following) = ap length p.file_is ∙ length-take p.stated p.following in
    let behind : length rest ≡ length p.following - p.stated = ap length p.rest_is ∙ length-drop p.stated p.following in
    let same : p.stated ≡ length bytes = omega (arith, count, behind, some) in
    let whole : p.following ≡ bytes ++ rest =
    sym (take-append-drop p.stated p.following) ∙ ap (λ (l : List ℕ). l ++ drop p.stated p.following) (sym p.file_is) ∙ ap (λ (l : List ℕ). bytes ++ l) (sym p.rest_is) in
    p.is ∙ ap (λ (n : ℕ). head_line n ++ p.following) same ∙ ap (λ (l : List ℕ). head_line (length bytes) ++ l) whole

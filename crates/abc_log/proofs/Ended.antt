-- A line that is ended is written whole, or a front of it where the log failed.
use Rattle.std.proofs.Common.{◌≡◌, ◌≢◌, ℕ, zero, suc, ◌-◌, ◌≤◌, min, Bool, true, false, List, [], ◌∷◌, ◌++◌, length, take, drop, refl, sym, ap, subst, ◌∙◌, arith, append_assoc, length-append}
use Rattle.std.proofs.Math.Logic.{∥∥₁_elim}
use Rattle.std.proofs.Props.{props}
use Rattle.std.proofs.lemmas.List.{length-take, take-append-drop, take_min}
use Rattle.std.proofs.lemmas.Grind.{flat_map-append}
use Rattle.std.specs.Prelude.{codes, IsSome, None, Some, Ok, Err}
use Rattle.std.specs.List.{flat_map}
use Rattle.std.specs.Io.KnownBytes.{append_known}
use Rattle.std.specs.declared.option.Option.{Option}
use Rattle.std.specs.declared.result.Result.{Result}
use Rattle.abc_base.specs.Faults.{HasCause, Rose}
use Rattle.abc_base.specs.Sinks.{GrowsByFront, WritesAll}
use Rattle.abc_base.specs.declared.source.Failed.{Failed}
use Rattle.abc_base.proofs.Writing.{front_first, front_second, known_twice}
use Rattle.abc_log.specs.Followed.{bytes_in, noted_number}
use Rattle.abc_log.specs.Lines.{log_hex, out_line}
use Rattle.abc_log.specs.Outs.{HasMore, AreBytesShown, end_of_line, has_some, open_line}
use Rattle.abc_log.specs.OutlineViews.{ShownView}
use Rattle.abc_log.proofs.Showing.{ended, rose_on, still_told}

-- ---- how much of a piece was written is told by the lengths

abbrev long : Option (List ℕ) → ℕ
long None = 0
long (Some xs) = length xs

told_front : (xs piece : List ℕ) (now : Option (List ℕ)) → GrowsByFront (Some xs) now piece → now ≡ append_known (Some xs) (take (long now - length xs) piece)
told_front xs piece now g =
    let more : long now ≡ length (xs ++ take g.count piece) = ap long g.front in
    let n : long now - length xs ≡ min g.count (length piece) = omega (arith, more, length-append xs (take g.count piece), length-take g.count piece) in
    g.front ∙ ap (λ (l : List ℕ). Some (xs ++ l)) (sym (take_min g.count piece) ∙ ap (λ (k : ℕ). take k piece) (sym n))

-- ---- the end of the line

module _ (before log now : Option (List ℕ)) (n faults last : ℕ) (bytes : List ℕ) where
  abbrev Ends : Bool → Result Unit Failed → Type 0
  Ends failed r = (failed ≡ true → (r ≡ Err (record {})) × (now ≡ log)) × (failed ≡ false → WritesAll log now r (end_of_line (has_some bytes)))

  whole : (r : Result Unit Failed) → IsSome before → log ≡ append_known before (open_line bytes) → WritesAll log now r (end_of_line (has_some bytes)) → WritesAll before now r (out_line bytes)
  whole (Ok u) some e w = λ here. w (still_told before log (open_line bytes) e some) ∙ ap (λ (o : Option (List ℕ)). append_known o (end_of_line (has_some bytes))) e ∙ known_twice before (open_line bytes) (end_of_line (has_some bytes)) ∙ ap (append_known before) (ended bytes)
  whole (Err f) some e w = λ here.
      let rest : GrowsByFront log now (end_of_line (has_some bytes)) = w (still_told before log (open_line bytes) e some) in
      subst (GrowsByFront before now) (ended bytes) (front_second before now (open_line bytes) (end_of_line (has_some bytes)) (subst (λ (o : Option (List ℕ)). GrowsByFront o now (end_of_line (has_some bytes))) e rest))

  at_false : (r : Result Unit Failed) → HasMore before n (open_line bytes) log faults false → Ends false r → WritesAll before now r (out_line bytes)
  at_false r is ends = λ some. whole r some (is some) (ends.1 refl) some

  front_at : HasMore before n (open_line bytes) log faults true → now ≡ log → IsSome before → GrowsByFront before now (out_line bytes)
  front_at is same some = subst (GrowsByFront before now) (ended bytes) (front_first before now (open_line bytes) (end_of_line (has_some bytes)) (subst (λ (o : Option (List ℕ)). GrowsByFront before o (open_line bytes)) (sym same) (is.0 some)))

  at_true : (r : Result Unit Failed) → HasMore before n (open_line bytes) log faults true → Ends true r → WritesAll before now r (out_line bytes)
  at_true (Ok u) is ends = absurd (let other = (ends.0 refl).0 in cc)
  at_true (Err f) is ends = λ some. front_at is (ends.0 refl).1 some

  line : (failed : Bool) (r : Result Unit Failed) → HasMore before n (open_line bytes) log faults failed → Ends failed r → WritesAll before now r (out_line bytes)
  line true r is ends = at_true r is ends
  line false r is ends = at_false r is ends

-- what is shown may be told only as a fact, and so may this
pub record Closes (before log now : Option (List ℕ)) (n faults last : ℕ) (bytes : List ℕ) (some failed : Bool) (r : Result Unit Failed) : Type 0 where
  pub shown : ∥ AreBytesShown before n bytes log faults some failed ∥₁
  pub stays : failed ≡ true → (r ≡ Err (record {})) × (now ≡ log)
  pub ends : failed ≡ false → WritesAll log now r (end_of_line some)
  pub later : faults ≤ last
  pub cause : failed ≡ false → HasCause faults last r

line_of : (before log now : Option (List ℕ)) (n faults last : ℕ) (bytes : List ℕ) (some failed : Bool) (r : Result Unit Failed) → Closes before log now n faults last bytes some failed r → AreBytesShown before n bytes log faults some failed → WritesAll before now r (out_line bytes)
line_of before log now n faults last bytes some failed r c s =
    line before log now n faults last bytes failed r s.is (c.stays, λ well. subst (λ (b : Bool). WritesAll log now r (end_of_line b)) s.some_is (c.ends well))

pub line_ended : (before log now : Option (List ℕ)) (n faults last : ℕ) (bytes : List ℕ) (some failed : Bool) (r : Result Unit Failed) → Closes before log now n faults last bytes some failed r → WritesAll before now r (out_line bytes)
line_ended None log now n faults last bytes some failed r c = λ here. absurd (cc)
line_ended (Some xs) log now n faults last bytes some failed (Ok u) c = λ here.
    ∥∥₁_elim c.shown (hlevel props) (λ s. line_of (Some xs) log now n faults last bytes some failed (Ok u) c s here)
line_ended (Some xs) log now n faults last bytes some failed (Err f) c = λ here. record {
  count = long now - length xs;
  front = ∥∥₁_elim c.shown (hlevel props) (λ s. told_front xs (out_line bytes) now (line_of (Some xs) log now n faults last bytes some failed (Err f) c s here));
}

-- where the log failed before, the line isn't ended
open_front : (before log now : Option (List ℕ)) (n faults last : ℕ) (bytes : List ℕ) (some failed : Bool) (r : Result Unit Failed) → Closes before log now n faults last bytes some failed r → failed ≡ true → AreBytesShown before n bytes log faults some failed → IsSome before → GrowsByFront before now (open_line bytes)
open_front before log now n faults last bytes some failed r c bad s here =
    let more : HasMore before n (open_line bytes) log faults true = subst (HasMore before n (open_line bytes) log faults) bad s.is in
    subst (λ (o : Option (List ℕ)). GrowsByFront before o (open_line bytes)) (sym (c.stays bad).1) (more.0 here)

pub front_ended : (before log now : Option (List ℕ)) (n faults last : ℕ) (bytes : List ℕ) (some failed : Bool) (r : Result Unit Failed) → Closes before log now n faults last bytes some failed r → failed ≡ true → IsSome before → GrowsByFront before now (open_line bytes)
front_ended None log now n faults last bytes some failed r c bad here = absurd (cc)
front_ended (Some xs) log now n faults last bytes some failed r c bad here = record {
  count = long now - length xs;
  front = ∥∥₁_elim c.shown (hlevel props) (λ s. told_front xs (open_line bytes) now (open_front (Some xs) log now n faults last bytes some failed r c bad s here));
}

rose_at : (before log : Option (List ℕ)) (n faults last : ℕ) (bytes : List ℕ) (failed : Bool) → n ≤ faults → faults ≤ last → HasMore before n (open_line bytes) log faults failed → (failed ≡ false → Rose faults last) → Rose n last
rose_at before log n faults last bytes true low high is cause = let rose = is.1 in omega (arith, rose)
rose_at before log n faults last bytes false low high is cause = rose_on n faults last low (cause refl)

pub cause_ended : (before log now : Option (List ℕ)) (n faults last : ℕ) (bytes : List ℕ) (some failed : Bool) (r : Result Unit Failed) → Closes before log now n faults last bytes some failed r → HasCause n last r
cause_ended before log now n faults last bytes some failed (Ok u) c = record { later = ∥∥₁_elim c.shown (hlevel props) (λ s. omega (arith, s.later, c.later)); failed = tt }
cause_ended before log now n faults last bytes some failed (Err f) c = record {
  later = ∥∥₁_elim c.shown (hlevel props) (λ s. omega (arith, s.later, c.later));
  failed = ∥∥₁_elim c.shown (hlevel props) (λ s. rose_at before log n faults last bytes failed s.later c.later s.is (λ well. (c.cause well).failed));
}

-- what the code keeps of the line, and what its end answers
module _ {L : Type 0} (written : L → Option (List ℕ)) (faults : L → ℕ) (start bytes : List ℕ) (old new : ShownView L) (last : L) (r : Result Unit Failed) where
  pub closed : last ≡ new.log → ∥ AreBytesShown (bytes_in start) (noted_number start) bytes (written old.log) (faults old.log) old.some old.failed ∥₁ → (old.failed ≡ true → (r ≡ Err (record {})) × (new ≡ old))
      → (old.failed ≡ false → WritesAll (written old.log) (written new.log) r (end_of_line old.some)) → faults old.log ≤ faults new.log → (old.failed ≡ false → HasCause (faults old.log) (faults new.log) r)
      → Closes (bytes_in start) (written old.log) (written last) (noted_number start) (faults old.log) (faults last) bytes old.some old.failed r
  closed is shown failed ends later cause = record {
    shown = shown;
    stays = λ bad. ((failed bad).0, ap written (is ∙ ap (λ (v : ShownView L). v.log) (failed bad).1));
    ends = λ well. subst (λ (x : L). WritesAll (written old.log) (written x) r (end_of_line old.some)) (sym is) (ends well);
    later = subst (λ (x : L). faults old.log ≤ faults x) (sym is) later;
    cause = λ well. subst (λ (x : L). HasCause (faults old.log) (faults x) r) (sym is) (cause well);
  }

pub failed_by : (failed : Bool) (n : ℕ) → (failed ≡ false → n ≡ 0) → n ≢ 0 → failed ≡ true
failed_by true n quiet some = refl
failed_by false n quiet some = absurd (some (quiet refl))

-- ---- a line that is cut off

abbrev rest_of : (k : ℕ) → List ℕ → List ℕ
rest_of zero bytes = out_line bytes
rest_of (suc k) [] = []
rest_of (suc k) (b ∷ bytes) = flat_map log_hex (drop k bytes) ++ 10 ∷ []

cut : (k : ℕ) (bytes : List ℕ) → open_line (take k bytes) ++ rest_of k bytes ≡ out_line bytes
cut zero bytes = refl
cut (suc k) [] = refl
cut (suc k) (b ∷ bytes) =
    let two : flat_map log_hex (take k bytes) ++ flat_map log_hex (drop k bytes) ≡ flat_map log_hex bytes = sym (flat_map-append log_hex (take k bytes) (drop k bytes)) ∙ ap (flat_map log_hex) (take-append-drop k bytes) in
    ap (λ (l : List ℕ). codes "out " ++ (log_hex b ++ l)) (sym (append_assoc (flat_map log_hex (take k bytes)) (flat_map log_hex (drop k bytes)) (10 ∷ [])) ∙ ap (λ (l : List ℕ). l ++ 10 ∷ []) two)

-- the front of a line that is cut off is one of the whole line
pub cut_front : (before now : Option (List ℕ)) (k : ℕ) (bytes : List ℕ) → GrowsByFront before now (open_line (take k bytes)) → GrowsByFront before now (out_line bytes)
cut_front before now k bytes g = subst (GrowsByFront before now) (cut k bytes) (front_first before now (open_line (take k bytes)) (rest_of k bytes) g)

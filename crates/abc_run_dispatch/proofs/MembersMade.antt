-- constructprop: what comes of the read is made an object of, now or at the return, where the arguments stay on the stack.
use Rattle.std.proofs.Common.{◌≡◌, ℕ, ◌+◌, ◌≤◌, List, ◌++◌, drop, length, reverse, take, refl, ap, ◌∙◌}
use Rattle.std.proofs.lemmas.List.{length-reverse, length-take-le, reverse-reverse}
use Rattle.abc_heap_values.specs.declared.values.Value.{Value}
use Rattle.abc_run_members.specs.Members.{constructs_of}
use Rattle.abc_frames.specs.Frame.{Frame, arguments, after_drop, waiting}
use Rattle.abc_frames.specs.declared.records.Wait.TheVariants.{New}
use Rattle.abc_meaning.specs.At.{Above, Act, Goes, makes_of_came, pushing}
use Rattle.abc_meaning.specs.Calling.{Calls, Came, Got, Makes}
use Rattle.abc_meaning.specs.Making.{new}
use Rattle.abc_meaning.specs.Setting.{Setting}
use Rattle.abc_meaning.specs.World.{Outcome, Went, World, and_then, pure}
use Rattle.abc_run_dispatch.proofs.DeletedTaken.{taking_at}
use Rattle.abc_verify_typing.specs.Effects.{Here}

count_of : (count : ℕ) (f : Frame) → count ≤ length f.stack → length (arguments count f) ≡ count
count_of count f b = length-reverse (take count f.stack) ∙ length-take-le count f.stack b

pub makes_as : (p : Setting) (h : Here) (f : Frame) (count under n : ℕ) (vs ps : List Value) → n ≡ count + under → count ≤ length f.stack → (w : World) (x : Came) → makes_of_came (taking_at p h f count n vs ps) (λ v. new p v (arguments count f)) x w ≡ constructs_of p under count f x w
makes_as p h f count under n vs ps e b w (Got v) = ap (λ (k : ℕ). and_then (new p v (arguments count f) w) (λ c. pure (Goes (pushing (after_drop k f) c)))) e
makes_as p h f count under n vs ps e b w (Calls g) =
    let keeps : ℕ → List Value → List Value → Outcome Act = λ m xs rest. Went w (Goes (Above g (waiting (New m) (record f { stack = xs ++ rest })))) in
    ap (λ (m : ℕ). keeps m (reverse (arguments count f)) (drop n f.stack)) (count_of count f b)
    ∙ ap (λ (xs : List Value). keeps count xs (drop n f.stack)) (reverse-reverse (take count f.stack))
    ∙ ap (λ (k : ℕ). keeps count (take count f.stack) (drop k f.stack)) e
makes_as p h f count under n vs ps e b w (Makes g v) = refl

-- The line that is written for some texts.
use Rattle.std.specs.Prelude.{ℕ, List, [], ◌∷◌, ◌++◌}
use Rattle.abc_heap_values.specs.declared.values.Value.{Value}
use Rattle.abc_heap_values.specs.declared.values.Value.TheVariants.{Undefined, Null, Num, Bool, Text, Space, Obj}
use Rattle.abc_heap_store.specs.Heap.{Heap}
use Rattle.abc_heap_store.specs.Texts.{IsText, text_of}

-- of no other value
abbrev pub bytes_of_value : List (List ℕ) → Heap → Value → List ℕ
bytes_of_value strings h (Text t) = text_of strings h t
bytes_of_value strings h Undefined = []
bytes_of_value strings h Null = []
bytes_of_value strings h (Num n) = []
bytes_of_value strings h (Bool b) = []
bytes_of_value strings h (Space n) = []
bytes_of_value strings h (Obj o) = []

-- one space between the texts, and a line feed
abbrev pub texts_line : List (List ℕ) → Heap → List Value → List ℕ
texts_line strings h [] = 10 ∷ []
texts_line strings h (t ∷ []) = bytes_of_value strings h t ++ 10 ∷ []
texts_line strings h (t ∷ u ∷ ts) = bytes_of_value strings h t ++ 32 ∷ texts_line strings h (u ∷ ts)

-- a text behind a space
abbrev pub behind : List (List ℕ) → Heap → Value → List ℕ
behind strings h t = 32 ∷ bytes_of_value strings h t

-- the texts are there
abbrev pub AreTextsThere : List (List ℕ) → Heap → Value → Type 0
AreTextsThere strings h (Text t) = IsText strings h t
AreTextsThere strings h Undefined = Unit {0}
AreTextsThere strings h Null = Unit {0}
AreTextsThere strings h (Num n) = Unit {0}
AreTextsThere strings h (Bool b) = Unit {0}
AreTextsThere strings h (Space n) = Unit {0}
AreTextsThere strings h (Obj o) = Unit {0}

-- all values of a list that are texts are there
abbrev pub AreThere : List (List ℕ) → Heap → List Value → Type 0
AreThere strings h [] = Unit {0}
AreThere strings h (t ∷ ts) = AreTextsThere strings h t × AreThere strings h ts

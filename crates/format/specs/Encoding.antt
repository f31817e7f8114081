-- The encodings of items, by document 01's table: which bytes stand for an item. It says reading again, with no machine:
-- proofs/Encodings shows that exactly these bytes are read, and as these items.
use Rattle.std.specs.Prelude.{◌≡◌, ℕ, ◌+◌, ◌-◌, ◌*◌, ◌^◌, ◌≤◌, ◌<◌, min, true, List, [], ◌∷◌, ◌++◌, length, Some, slice_get}
use Rattle.format.specs.Limits.{max_bytes, max_entries, max_inline, max_rows}
use Rattle.format.specs.Kind as Kind
use Rattle.format.specs.Code as Code
use Rattle.format.specs.Header.{digits, negative_alias, shift}
use Rattle.format.specs.Utf8.{utf8}
use Rattle.format.specs.Item.{Item, held, plain}
use Rattle.format.specs.Grammar.{BundleOf}

-- The headers of a code and a payload p: p in the lead byte, or in k following bytes, as few as can be or more.
pub data Heading (code p : ℕ) : List ℕ → Type 0 where
  inline : p + shift code ≤ max_inline → Heading code p ((code * 32 + (p + shift code)) ∷ [])
  longer : {k : ℕ} → 1 ≤ k → k ≤ 8 → p < 256 ^ k → Heading code p ((code * 32 + (max_inline + k)) ∷ digits k p)

-- The encodings of an item where the symbol table is es; after it the table is that of the last column.
pub data Encodes (es : List Item) : Item → List ℕ → List Item → Type 0 where
  -- null, true, false
  simple : {k : ℕ} → k < Kind.float32 → Encodes es (plain k 0) (k ∷ []) es
  float32 : {n : ℕ} → n < 2 ^ 32 → Encodes es (plain Kind.float32 n) (Kind.float32 ∷ digits 4 n) es
  float64 : {n : ℕ} → n < 2 ^ 64 → Encodes es (plain Kind.float64 n) (Kind.float64 ∷ digits 8 n) es
  bytes : {h c : List ℕ} → Heading Code.binary (length c) h → Encodes es (held Kind.bytes c) (h ++ c) es
  positive : {n : ℕ} {h : List ℕ} → Heading Code.positive n h → Encodes es (plain Kind.positive n) h es
  -- the largest payload means the same as the one before it
  negative : {n : ℕ} {h : List ℕ} → Heading Code.negative n h → Encodes es (plain Kind.negative (min n (negative_alias - 1))) h es
  container : {n : ℕ} {h : List ℕ} → Heading Code.container n h → Encodes es (plain Kind.container n) h es
  string : {h c : List ℕ} → Heading Code.string (length c) h → utf8 c ≡ true → Encodes es (held Kind.string c) (h ++ c) es
  -- a name in full makes an entry
  symbol : {h c : List ℕ} → Heading Code.symbol (length c) h → utf8 c ≡ true
      → Encodes es (held Kind.symbol c) (h ++ c) (es ++ (held Kind.symbol c ∷ []))
  key : {h c : List ℕ} → Heading Code.key (length c) h → utf8 c ≡ true
      → Encodes es (held Kind.key c) (h ++ c) (es ++ (held Kind.key c ∷ []))
  -- a reference is the item of its entry, and makes none
  reference : {i : ℕ} {x : Item} {h : List ℕ} → Heading Code.reference i h → slice_get es i ≡ Some x → Encodes es x h es

-- Items one after the other, from one table to another.
pub data EncodesAll : List Item → List Item → List ℕ → List Item → Type 0 where
  none : {es : List Item} → EncodesAll es [] [] es
  more : {es fs gs : List Item} {x : Item} {xs : List Item} {bs cs : List ℕ} → Encodes es x bs fs
      → EncodesAll fs xs cs gs → EncodesAll es (x ∷ xs) (bs ++ cs) gs

-- Bytes that are a bundle of items: they encode them, the items are whole fields, and all is within the limits and a table of n rows.
pub record Readable (n : ℕ) (bs : List ℕ) (xs : List Item) : Type 0 where
  pub entries : List Item
  pub encoded : EncodesAll [] xs bs entries
  pub fields : ℕ
  pub grammar : BundleOf fields xs
  pub size : length bs ≤ max_bytes
  pub rows : length xs ≤ max_rows
  pub table : length xs ≤ n
  pub few : length entries ≤ max_entries

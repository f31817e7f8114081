-- Demand 3, joining, as one statement about a call that joins, with a part for each sentence. proofs/Demand3 proves it.
-- It is stated over the options of reading, and so over the mode: `join` reads leniently.
use Rattle.std.specs.Prelude.{◌≡◌, ◌↔◌, ℕ, ◌≤◌, ◌<◌, min, List, [], ◌++◌, length, take, drop, Err, Ok}
use Rattle.format.specs.declared.error.Error.TheVariants.{OutputTooLong, TooManyEntries, TooManyRows}
use Rattle.format.specs.Limits.{max_bytes, max_entries, max_rows}
use Rattle.format.specs.Answer.{Answer, Failure, failure, sided}
use Rattle.format.specs.Written.{Writes}
use Rattle.format.specs.Item.{Item}
use Rattle.format.specs.Names.{names_from}
use Rattle.format.specs.Reading.{Options, items}
use Rattle.format.specs.Canonical.{canonical}
use Rattle.format.specs.Writing.{fitted}
use Rattle.format.specs.Joining.{joining}
use Rattle.format.specs.Laws.{Means}

-- What demand 3 names as the reasons to refuse.
pub data Exceeds (capacity : ℕ) (xs : List Item) : Type 0 where
  over_rows : max_rows < length xs → Exceeds capacity xs
  over_names : max_entries < length (names_from [] xs) → Exceeds capacity xs
  over_size : max_bytes < length (canonical xs) → Exceeds capacity xs
  over_buffer : capacity < length (canonical xs) → Exceeds capacity xs

-- The answer is a failure.
pub data Refused : Answer ℕ → Type 0 where
  refused : {f : Failure} → Refused (Err f)

module _ (o : Options) where
  -- A call that joins a and b into a buffer that held `old`: it answers `r` and leaves `new`.
  abbrev pub Joins : List ℕ → List ℕ → List ℕ → Answer ℕ → List ℕ → Type 0
  Joins a b old r new = Writes (joining o a b (length old)) old r new

  -- ---- two bundles

  -- Of two bundles that read, with the items xs and ys.
  pub record OfTwo (xs ys : List Item) (old : List ℕ) (r : Answer ℕ) (new : List ℕ) : Type 0 where
    -- Joining two bundles that read gives the canonical encoding of the first one's fields followed by the second's;
    pub result : {n : ℕ} → r ≡ Ok n → take n new ≡ canonical (xs ++ ys)
    -- it is refused exactly when together they have over 1,024 rows or over 256 different names, or the result is over
    -- 16,384 bytes or the buffer;
    pub refused : Refused r ↔ Exceeds (length old) (xs ++ ys)
    -- otherwise it writes that result, byte for byte,
    pub writes : (Exceeds (length old) (xs ++ ys) → ⊥) → new ≡ canonical (xs ++ ys) ++ drop (length (canonical (xs ++ ys))) old
    -- and answers its length.
    pub answers : (Exceeds (length old) (xs ++ ys) → ⊥) → r ≡ Ok (length (canonical (xs ++ ys)))
    -- A refusal changes no byte of the buffer.
    pub untouched : Refused r → new ≡ old
    -- The first limit that is passed gives the error, with place 0 and side 0.
    pub rows_first : max_rows < length (xs ++ ys) → r ≡ Err (failure TooManyRows 0)
    pub names_next : length (xs ++ ys) ≤ max_rows → max_entries < length (names_from [] (xs ++ ys)) → r ≡ Err (failure TooManyEntries 0)
    pub size_last : length (xs ++ ys) ≤ max_rows → length (names_from [] (xs ++ ys)) ≤ max_entries → Refused r
        → r ≡ Err (failure OutputTooLong 0)

  -- ---- the empty bundle and another

  -- The canonical encoding of xs, unless it is over 16,384 bytes or the buffer.
  pub record Yields (xs : List Item) (old : List ℕ) (r : Answer ℕ) (new : List ℕ) : Type 0 where
    pub yields : Writes (fitted (length old) (canonical xs)) old r new
    -- The same, case by case: it is written and its length answered, or it is refused and no byte is changed.
    pub fits : length (canonical xs) ≤ min max_bytes (length old) → (r ≡ Ok (length (canonical xs)))
        × (new ≡ canonical xs ++ drop (length (canonical xs)) old)
    pub over : min max_bytes (length old) < length (canonical xs) → (r ≡ Err (failure OutputTooLong 0)) × (new ≡ old)

  -- ---- three bundles

  -- A way to join three bundles that answers n and leaves `new`: two neighbours are joined first, in any buffer, and the
  -- bytes of that result, as many as it counts, are joined with the third as they stand.
  pub data Way (a b c : List ℕ) (n : ℕ) (new : List ℕ) : Type 0 where
    left_first : {m : ℕ} {old old' ab : List ℕ} → Joins a b old (Ok m) ab → Joins (take m ab) c old' (Ok n) new → Way a b c n new
    right_first : {m : ℕ} {old old' bc : List ℕ} → Joins b c old (Ok m) bc → Joins a (take m bc) old' (Ok n) new → Way a b c n new

  -- Of three bundles that read, with the items xs, ys and zs.
  pub record OfThree (a b c : List ℕ) (xs ys zs : List Item) : Type 0 where
    -- Of three bundles, whichever pair is joined first, a way that answers gives the canonical encoding of all three in order,
    pub result : {n : ℕ} {new : List ℕ} → Way a b c n new → take n new ≡ canonical (xs ++ (ys ++ zs))
    pub answers : {n : ℕ} {new : List ℕ} → Way a b c n new → n ≡ length (canonical (xs ++ (ys ++ zs)))
    -- so two ways that answer agree: on the count, and on the bytes.
    pub agree : {n n' : ℕ} {new new' : List ℕ} → Way a b c n new → Way a b c n' new' → (n ≡ n') × (take n new ≡ take n' new')

  -- ---- a bundle that does not read

  -- The failure f of reading, on one side of the join; no byte of the buffer is changed.
  pub record Unread (f : Failure) (side : ℕ) (old : List ℕ) (r : Answer ℕ) (new : List ℕ) : Type 0 where
    pub answer : r ≡ Err (sided side f)
    pub untouched : new ≡ old

  -- ---- demand 3, whole

  pub record Demand3 : Type 0 where
    pub two : {a b old new : List ℕ} {xs ys : List Item} {r : Answer ℕ} → Means o a xs → Means o b ys
        → Joins a b old r new → OfTwo xs ys old r new
    -- The empty bundle on either side yields the other's canonical encoding, within those limits.
    pub empty_first : {a old new : List ℕ} {xs : List Item} {r : Answer ℕ} → Means o a xs → Joins [] a old r new → Yields xs old r new
    pub empty_second : {a old new : List ℕ} {xs : List Item} {r : Answer ℕ} → Means o a xs → Joins a [] old r new → Yields xs old r new
    pub three : {a b c : List ℕ} {xs ys zs : List Item} → Means o a xs → Means o b ys → Means o c zs → OfThree a b c xs ys zs
    -- A bundle that does not read is refused with its own number and place, the first one first.
    pub unread_first : (a b : List ℕ) {old new : List ℕ} {f : Failure} {r : Answer ℕ} → items o a ≡ Err f
        → Joins a b old r new → Unread f 1 old r new
    pub unread_second : (a b : List ℕ) {old new : List ℕ} {xs : List Item} {f : Failure} {r : Answer ℕ}
        → items o a ≡ Ok xs → items o b ≡ Err f
        → Joins a b old r new → Unread f 2 old r new

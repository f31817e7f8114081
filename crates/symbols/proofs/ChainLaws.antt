-- Entries with chains: a search along a chain finds what the search of all entries finds, and one more entry. Assumes nothing.
use Rattle.std.specs.Prelude.{None, Some}
use mathlib.Core.Path.{◌≡◌, refl, ap, sym, ◌∙◌}
use mathlib.Core.Logic.{◌≢◌}
use mathlib.Core.Bool.{true, false}
use mathlib.Core.List.{List, [], ◌∷◌, ◌++◌, map}
use Prim.Native.Nat.{ℕ, zero, suc, ◌+◌, ◌-◌, ◌≤◌, ◌<◌}
use native.Mathlib.Nat.{add-zero, zero-add}
use native.Mathlib.Numerals.{add-one}
use native.Mathlib.Omega.{arith}
use lib.ListN.{length, take, drop, get_or, set, replicate, length-set, length-replicate, get_or-replicate, length-map}
use lib.Seq.{get_or-take, length-take-le, get_or-set_same, get_or-set_other, take-suc-set}
use Rattle.format.specs.Item.{Item}
use Rattle.format.specs.Kind as Kind
use Rattle.format.specs.Limits.{max_entries}
use Rattle.format.specs.Names.{same_name, index_from, index}
use Rattle.format.proofs.Tests.{cases, clash, equal, order, eqb-true, and-true, pick_yes, pick_no, none-some}
use Rattle.format.proofs.Lists.{map-append}
use Rattle.format.proofs.Names.{same_true, index_at, item_path, same_name_refl}
use Rattle.format.proofs.Encoding.{at_lt}
use Rattle.symbols.specs.Entry.{key_of, key_in, buckets, bucket, name, name_in, names_in, part_in, Packed, Sound}
use Rattle.symbols.specs.Entries.{part_of}
use Rattle.symbols.specs.Chains.{Table, links_size, Chained}
use Rattle.symbols.specs.declared.names.Names.{Names}
use Rattle.symbols.specs.Names.{names_of}
use Rattle.symbols.proofs.EntryLaws.{other_key, side_first}

-- ---- names

pub same_via : (x a b : Item) → same_name x a ≡ true → same_name x b ≡ same_name a b
unfolding same_name
same_via x a b e =
    let (p, q) = and-true _ _ e in
    let k : x.kind ≡ a.kind = eqb-true _ _ p in
    let c : x.content ≡ a.content = same_true _ _ q in
    rw (k, c)

-- ---- the search of all entries

module _ (a b : List ℕ) (x : Item) where
  from_some : (k : ℕ) (es : List ℕ) (i : ℕ) → i < length es → same_name x (name_in a b (get_or es i 0)) ≡ true
      → ((j : ℕ) → j < i → same_name x (name_in a b (get_or es j 0)) ≡ false) → index_from k x (names_in a b es) ≡ Some (k + i)
  unfolding names_in index_from
  from_some k [] i l h f = absurd (omega arith)
  from_some k (e ∷ es) zero l h f = pick_yes _ _ h ∙ ap Some (sym (add-zero k))
  from_some k (e ∷ es) (suc i) l h f =
      pick_no _ _ (f 0 (omega arith)) ∙ from_some (k + 1) es i (omega arith) h (λ j g. f (suc j) (omega arith)) ∙ ap Some (omega arith)

  from_none : (k : ℕ) (es : List ℕ) → ((j : ℕ) → j < length es → same_name x (name_in a b (get_or es j 0)) ≡ false)
      → index_from k x (names_in a b es) ≡ None
  unfolding names_in index_from
  from_none k [] f = refl
  from_none k (e ∷ es) f = pick_no _ _ (f 0 (omega arith)) ∙ from_none (k + 1) es (λ j g. f (suc j) (omega arith))

  none-all : (k : ℕ) (es : List ℕ) → index_from k x (names_in a b es) ≡ None → (j : ℕ) → j < length es
      → same_name x (name_in a b (get_or es j 0)) ≡ false
  unfolding names_in index_from
  none-all k [] h j l = absurd (omega arith)
  none-all k (e ∷ es) h zero l = cases (same_name x (name_in a b e)) (λ t. none-some (sym h ∙ pick_yes _ _ t)) (λ f. f)
  none-all k (e ∷ es) h (suc j) l =
      cases (same_name x (name_in a b e)) (λ t. none-some (sym h ∙ pick_yes _ _ t))
      (λ f. none-all (k + 1) es (sym (pick_no _ _ f) ∙ h) j (omega arith))

module _ (a b es : List ℕ) (count : ℕ) (x : Item) (le : count ≤ length es) where
  long : length (take count es) ≡ count
  long = length-take-le count es le

  kept : (j : ℕ) → j < count → get_or (take count es) j 0 ≡ get_or es j 0
  kept j l = get_or-take count es j 0 l

  pub index_some : (i : ℕ) → i < count → same_name x (name_in a b (get_or es i 0)) ≡ true
      → ((j : ℕ) → j < i → same_name x (name_in a b (get_or es j 0)) ≡ false)
      → index x (names_in a b (take count es)) ≡ Some i
  unfolding index
  index_some i l h f =
      from_some a b x 0 (take count es) i (rw long l) (rw (kept i l) h) (λ j g. rw (kept j (omega arith)) (f j g)) ∙ ap Some (zero-add i)

  pub index-none : ((j : ℕ) → j < count → same_name x (name_in a b (get_or es j 0)) ≡ false) → index x (names_in a b (take count es)) ≡ None
  unfolding index
  index-none f = from_none a b x 0 (take count es) (λ j g. let l : j < count = rw long at g in rw (kept j l) (f j l))

  pub none_each : index x (names_in a b (take count es)) ≡ None → (j : ℕ) → j < count → same_name x (name_in a b (get_or es j 0)) ≡ false
  unfolding index
  none_each h j l = rw (kept j l) at (none-all a b x 0 (take count es) h j (rw long l))

pub count-le : {a b es : List ℕ} {count : ℕ} → Table a b es count → count ≤ length es
count-le t = omega (arith, t.size, t.few)

pub length-names : {a b es : List ℕ} {count : ℕ} → Table a b es count → length (names_in a b (take count es)) ≡ count
unfolding names_in
length-names {a} {b} {es} {count} t = length-map (take count es) (name_in a b) ∙ length-take-le count es (count-le t)

pub length_names : (t : Names) → length (names_of t) ≡ t.count
unfolding names_of
length_names t = length-names t.chained.table

-- An entry with this part of the first text has its name, and no entry before it.
pub placed : (t : Names) {i kind start len : ℕ} → i < t.count → Packed (get_or t.entries i 0) start 0 len kind
    → index (part_of t.first.now kind start len).item (names_of t) ≡ Some i
unfolding names_of name_in part_in
placed t {i} {kind} {start} {len} l p =
    let x : Item = (part_of t.first.now kind start len).item in
    let a : List ℕ = t.first.now in
    let b : List ℕ = t.second.now in
    let e : ℕ = get_or t.entries i 0 in
    let is : name_in a b e ≡ x = item_path p.kind_is p.length_is
    (rw (p.length_is, p.start_is, p.side_is) (ap (λ (s : List ℕ). take len (drop start s)) (side_first 0 a b refl))) in
    let h : same_name x (name_in a b e) ≡ true = rw is (same_name_refl x) in
    index_some a b t.entries t.count x (count-le t.chained.table) i l h
    (λ j k. same_via x (name_in a b e) (name_in a b (get_or t.entries j 0)) h ∙ t.chained.unlike i j l k)

-- ---- a search along a chain

-- What is known at v: no entry from v on has the name, and v's entry is in the bucket.
pub record Along (a b es : List ℕ) (count kind key : ℕ) (content : List ℕ) (v : ℕ) : Type 0 where
  pub within : v ≤ count
  pub none_from : (j : ℕ) → j < count → v ≤ j → same_name (name kind content) (name_in a b (get_or es j 0)) ≡ false
  pub here : 0 < v → bucket (get_or es (v - 1) 0) ≡ bucket key

module _ {a b es links : List ℕ} {count kind key : ℕ} (content : List ℕ) (c : Chained a b es links count)
    (ek : key ≡ key_of kind content) (lo : Kind.symbol ≤ kind)
    (hi : kind ≤ Kind.key) where
  abbrev x : Item
  x = name kind content

  -- the same name is in the same bucket
  same-bucket : (j : ℕ) → j < count → same_name x (name_in a b (get_or es j 0)) ≡ true → bucket (get_or es j 0) ≡ bucket key
  same-bucket j l t =
      equal (key_in (get_or es j 0)) key
      (λ (e : key_in (get_or es j 0) ≡ key). omega arith)
      (λ e. clash t (other_key content (c.table.sound j l) ek lo hi e))

  pub along_start : Along a b es count kind key content (get_or links (bucket key) 0)
  along_start =
      record {
        within = c.head_le (bucket key) (omega arith);
        none_from = λ j l le. cases (same_name x (name_in a b (get_or es j 0)))
            (λ t. let e = same-bucket j l t in let p : j < get_or links (bucket key) 0 = rw e at (c.head_past j l) in
            absurd (omega arith)) (λ f. f);
        here = λ p. c.head_in (bucket key) (get_or links (bucket key) 0 - 1) (omega arith) (omega arith);
      }

  module _ {v : ℕ} (w : Along a b es count kind key content v) (pos : 0 < v) where
    lt : v - 1 < count
    lt = omega (arith, w.within)

    along_next_from : same_name x (name_in a b (get_or es (v - 1) 0)) ≡ false
        → Along a b es count kind key content (get_or links (buckets + (v - 1)) 0)
    along_next_from h =
        record {
          within = omega (arith, c.next_le (v - 1) lt, w.within);
          none_from = λ j l le. equal j (v - 1) (λ (q : j ≡ v - 1). rw q h)
              (λ q. cases (same_name x (name_in a b (get_or es j 0))) (λ t. clash t (past j l le q t)) (λ f. f));
          here = λ p. c.next_in (v - 1) (get_or links (buckets + (v - 1)) 0 - 1) lt (omega arith) ∙ w.here pos;
        }
      where
        past : (j : ℕ) → j < count → get_or links (buckets + (v - 1)) 0 ≤ j → j ≢ v - 1 → same_name x (name_in a b (get_or es j 0)) ≡ true
            → same_name x (name_in a b (get_or es j 0)) ≡ false
        past j l le q t =
            order v j (λ (g : v ≤ j). w.none_from j l g)
            (λ (g : j < v).
            let p : j < get_or links (buckets + (v - 1)) 0 = c.next_past (v - 1) j lt (omega arith) (same-bucket j l t
            ∙ sym (w.here pos)) in
            absurd (omega arith))

    pub along_next : (i : ℕ) → i ≡ v - 1 → same_name x (name_in a b (get_or es i 0)) ≡ false
        → Along a b es count kind key content (get_or links (buckets + i) 0)
    along_next i e h = let g = rw e at h in rw e (along_next_from g)

    hit_from : same_name x (name_in a b (get_or es (v - 1) 0)) ≡ true → index x (names_in a b (take count es)) ≡ Some (v - 1)
    hit_from h =
        index_some a b es count x (count-le c.table) (v - 1) lt h
        (λ j l. same_via x (name_in a b (get_or es (v - 1) 0)) (name_in a b (get_or es j 0)) h ∙ c.unlike (v - 1) j lt l)

    pub along_hit : (i : ℕ) → i ≡ v - 1 → same_name x (name_in a b (get_or es i 0)) ≡ true → index x (names_in a b (take count es)) ≡ Some i
    along_hit i e h = let g = rw e at h in rw e (hit_from g)

  pub along_end : {v : ℕ} → Along a b es count kind key content v → v ≡ 0 → index x (names_in a b (take count es)) ≡ None
  along_end w e = index-none a b es count x (count-le c.table) (λ j l. w.none_from j l (omega arith))

-- ---- no entry

pub chain_start : (a b es links : List ℕ) → length es ≡ max_entries → links ≡ replicate links_size 0 → Chained a b es links 0
chain_start a b es links e z =
    record {
      table = record { size = e; few = omega arith; sound = λ i h. absurd (omega arith) };
      size = rw z (length-replicate {A = ℕ} links_size 0);
      head_le = λ k l. omega (arith, zeros k l);
      head_in = λ k v l h. absurd (omega (arith, zeros k l));
      head_past = λ j h. absurd (omega arith);
      next_le = λ i h. absurd (omega arith);
      next_in = λ i v h. absurd (omega arith);
      next_past = λ i j h. absurd (omega arith);
      unlike = λ i j h. absurd (omega arith);
    }
  where
    zeros : (k : ℕ) → k < buckets → get_or links k 0 ≡ 0
    zeros k l = rw z (get_or-replicate links_size k 0 0 (omega arith))

-- ---- one more entry

-- the names of a table with one entry more
pub names-set : (a b es : List ℕ) (count e : ℕ) → count < length es
    → names_in a b (take (count + 1) (set es count e)) ≡ names_in a b (take count es) ++ (name_in a b e ∷ [])
unfolding names_in
names-set a b es count e l =
    ap (λ (n : ℕ). map (name_in a b) (take n (set es count e))) (add-one count)
    ∙ ap (map (name_in a b)) (take-suc-set es count e l) ∙ map-append (name_in a b) (take count es) (e ∷ [])

module _ {a b es links : List ℕ} {count e : ℕ} (c : Chained a b es links count) (lt : count < max_entries) (ok : Sound a b e)
    (new : index (name_in a b e) (names_in a b (take count es)) ≡ None) where
  old : (j : ℕ) → j < count → get_or (set es count e) j 0 ≡ get_or es j 0
  old j l = get_or-set_other es count j e 0 (λ q. omega arith)

  last : get_or (set es count e) count 0 ≡ e
  last = get_or-set_same es count e 0 (omega (arith, c.table.size))

  table_more : Table a b (set es count e) (count + 1)
  table_more =
      record {
        size = length-set es count e ∙ c.table.size;
        few = omega arith;
        sound = λ i (l : i < count + 1). equal i count (λ (q : i ≡ count). rw (q, last) ok)
            (λ q. let m : i < count = omega arith in rw (old i m) (c.table.sound i m));
      }

  abbrev links₁ : List ℕ
  links₁ = set links (buckets + count) (get_or links (bucket e) 0)

  abbrev links₂ : List ℕ
  links₂ = set (set links (buckets + count) (get_or links (bucket e) 0)) (bucket e) (count + 1)

  -- the heads
  head_new : get_or links₂ (bucket e) 0 ≡ count + 1
  head_new = get_or-set_same links₁ (bucket e)
      (count + 1) 0 (omega (arith, c.size, length-set links (buckets + count) (get_or links (bucket e) 0)))

  head_old : (k : ℕ) → k < buckets → k ≢ bucket e → get_or links₂ k 0 ≡ get_or links k 0
  head_old k l n = get_or-set_other links₁ (bucket e) k (count + 1) 0 n
      ∙ get_or-set_other links (buckets + count) k (get_or links (bucket e) 0) 0 (λ q. omega arith)

  head_past_old : (j : ℕ) → j < count → j < get_or links₂ (bucket (get_or es j 0)) 0
  head_past_old j m =
      equal (bucket (get_or es j 0)) (bucket e)
      (λ (q : bucket (get_or es j 0) ≡ bucket e). rw (q, head_new) (omega arith))
      (λ n. rw (head_old (bucket (get_or es j 0)) (omega arith) n) (c.head_past j m))

  -- the nexts
  next-new : get_or links₂ (buckets + count) 0 ≡ get_or links (bucket e) 0
  next-new =
      get_or-set_other links₁ (bucket e) (buckets + count) (count + 1) 0 (λ q. omega arith)
      ∙ get_or-set_same links (buckets + count) (get_or links (bucket e) 0) 0 (omega (arith, c.size))

  next-old : (i : ℕ) → i < count → get_or links₂ (buckets + i) 0 ≡ get_or links (buckets + i) 0
  next-old i l =
      get_or-set_other links₁ (bucket e) (buckets + i) (count + 1) 0 (λ q. omega arith)
      ∙ get_or-set_other links (buckets + count) (buckets + i) (get_or links (bucket e) 0) 0 (λ q. omega arith)

  -- what `enter` does
  pub chain_more : Chained a b (set es count e) (set (set links (buckets + count) (get_or links (bucket e) 0)) (bucket e)
      (count + 1)) (count + 1)
  chain_more =
      record {
        table = table_more;
        size = length-set links₁ (bucket e) (count + 1) ∙ length-set links (buckets + count) (get_or links (bucket e) 0) ∙ c.size;
        head_le = λ k l. equal k (bucket e)
            (λ (q : k ≡ bucket e). rw (q, head_new) (omega arith))
            (λ n. omega (arith, head_old k l n, c.head_le k l));
        head_in = λ k w l h. equal k (bucket e)
            (λ (q : k ≡ bucket e).
            let p : get_or links₂ k 0 ≡ count + 1 = rw q head_new in
            let z : w ≡ count = omega arith in
            rw (z, last) (sym q))
            (λ n.
            let p : get_or links k 0 ≡ w + 1 = sym (head_old k l n) ∙ h in
            rw (old w (omega (arith, c.head_le k l))) (c.head_in k w l p));
        head_past = λ j (l : j < count + 1). equal j count
            (λ (q : j ≡ count). rw (q, last, head_new) (omega arith))
            (λ n. let m : j < count = omega arith in rw (old j m) (head_past_old j m));
        next_le = λ i (l : i < count + 1). equal i count
            (λ (q : i ≡ count). rw (q, next-new) (c.head_le (bucket e) (omega arith)))
            (λ n. let m : i < count = omega arith in rw (next-old i m) (c.next_le i m));
        next_in = λ i w (l : i < count + 1) h. equal i count
            (λ (q : i ≡ count).
            let p : get_or links (bucket e) 0 ≡ w + 1 = sym next-new ∙ rw q at h in
            rw (q, last, old w (omega (arith, c.head_le (bucket e) (omega arith)))) (c.head_in (bucket e) w (omega arith) p))
            (λ n.
            let m : i < count = omega arith in
            let p : get_or links (buckets + i) 0 ≡ w + 1 = sym (next-old i m) ∙ h in
            rw (old i m, old w (omega (arith, c.next_le i m))) (c.next_in i w m p));
        next_past = λ i j (l : i < count + 1) g h. equal i count
            (λ (q : i ≡ count).
            let m : j < count = omega arith in
            let p : bucket (get_or es j 0) ≡ bucket e = rw (q, last, old j m) at h in
            let r : j < get_or links (bucket e) 0 = rw p at (c.head_past j m) in
            rw (q, next-new) r)
            (λ n.
            let m : i < count = omega arith in
            let m' : j < count = omega arith in
            rw (next-old i m) (c.next_past i j m g (rw (old i m, old j m') at h)));
        unlike = λ i j (l : i < count + 1) g. equal i count
            (λ (q : i ≡ count).
            let m : j < count = omega arith in
            rw (q, last, old j m) (none_each a b es count (name_in a b e) (count-le c.table) new j m))
            (λ n.
            let m : i < count = omega arith in
            rw (old i m, old j (omega arith)) (c.unlike i j m g));
      }

-- an index fits the table
pub index-small : {a b es links : List ℕ} {count i : ℕ} (x : Item) → Chained a b es links count
    → index x (names_in a b (take count es)) ≡ Some i → i < max_entries
index-small {a} {b} {es} {links} {count} {i} x ch e =
    omega (arith, at_lt (names_in a b (take count es)) i (index_at x (names_in a b (take count es)) e).at, length-names ch.table, ch.table.few)

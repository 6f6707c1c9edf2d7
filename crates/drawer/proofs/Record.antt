-- The laws of `specs/Record.antt`: numbers as bytes and back, what stands where in a record, and that reading it gives it back.
--     Below, below_nth                     each number of a list is below a bound
--     from_bytes-to_bytes, to_bytes_below  the bytes of a number say that number, and each is below 256
--     numbers_read                         the bytes of numbers of 16 bits say those numbers
--     Fits                                 a filed layout that a record has room for
--     length_record_bytes                  its bytes are 2,048
--     record_bytes_below                   each of them is below 256
--     filed_in_record_bytes, zero_byte_in_record_bytes, filling_in_record_bytes
--                                          what a reading finds in them
-- Assumes nothing.
use Prim.Native.Nat.{ℕ, zero, suc, ◌-◌, ◌*◌, ◌/◌, ◌%◌, ◌^◌, ◌≤◌, ◌<◌}
use mathlib.Core.Path.{◌≡◌, refl, sym, ap, ap₂, ◌∙◌}
use mathlib.Core.Bool.{true}
use mathlib.Core.List.{List, [], ◌∷◌, ◌++◌, flat_map}
use native.Mathlib.Omega.{arith}
use native.Mathlib.Nat.{pow-suc, div-lt_iff_lt-mul, mod-add-div, mod-lt, mod-eq_of_lt}
use lib.Seq.{drop_at, drop-drop}
use lib.ListN.{length, drop, replicate, length-append, length-replicate}
use Rattle.maps.specs.Least.{nth}
use Rattle.maps.specs.Given.{lent}
use Rattle.drawer.specs.Record.{Filed, to_bytes, from_bytes, numbers, record_size, record_bytes, filed_in, zero_byte_in, filling_in, all_zero}

-- each number of the list is below k
pub data Below (k : ℕ) : List ℕ → Type 0 where
  none : Below k []
  more : {x : ℕ} {xs : List ℕ} → x < k → Below k xs → Below k (x ∷ xs)

pub below_append : {k : ℕ} {xs ys : List ℕ} → Below k xs → Below k ys → Below k (xs ++ ys)
below_append none b = b
below_append (more h a) b = more h (below_append a b)

pub below_replicate : (k n : ℕ) → 0 < k → Below k (replicate n 0)
below_replicate k zero h = none
below_replicate k (suc n) h = more h (below_replicate k n h)

-- so is what stands at each place, and 0 past the end
pub below_nth : {k : ℕ} {xs : List ℕ} → Below (suc k) xs → (p : ℕ) → nth xs p < suc k
unfolding nth
below_nth b zero = omega arith
below_nth none (suc p) = omega arith
below_nth (more h b) (suc zero) = h
below_nth (more h b) (suc (suc p)) = below_nth b (suc p)

pub from_bytes-to_bytes : (k x : ℕ) → x < 256 ^ k → from_bytes (to_bytes k x) ≡ x
unfolding from_bytes to_bytes
from_bytes-to_bytes zero x h = omega (arith, h)
from_bytes-to_bytes (suc k) x h =
    let less : x / 256 < 256 ^ k = (div-lt_iff_lt-mul {k = 256} {x = x} {y = 256 ^ k} (omega arith)).1 (rw (pow-suc 256 k) at h) in
    rw (from_bytes-to_bytes k (x / 256) less) (mod-add-div x 256)

pub to_bytes_below : (k x : ℕ) → Below 256 (to_bytes k x)
unfolding to_bytes
to_bytes_below zero x = none
to_bytes_below (suc k) x = more (mod-lt x (omega arith)) (to_bytes_below k (x / 256))

pub length-to_bytes : (k x : ℕ) → length (to_bytes k x) ≡ k
unfolding to_bytes
length-to_bytes zero x = refl
length-to_bytes (suc k) x = ap suc (length-to_bytes k (x / 256))

-- a table, two bytes to a number
abbrev pub table_bytes : List ℕ → List ℕ
table_bytes w = flat_map (to_bytes 2) w

pub table_bytes_below : (w : List ℕ) → Below 256 (table_bytes w)
unfolding flat_map
table_bytes_below [] = none
table_bytes_below (x ∷ w) = below_append (to_bytes_below 2 x) (table_bytes_below w)

pub length_table_bytes : (w : List ℕ) → length (table_bytes w) ≡ 2 * length w
unfolding flat_map
length_table_bytes [] = refl
length_table_bytes (x ∷ w) =
    let rest = length_table_bytes w in
    rw (length-append, length-to_bytes 2 x) (omega arith)

pub numbers_read : (w rest : List ℕ) → Below 65536 w → numbers (length w) (table_bytes w ++ rest) ≡ w
unfolding numbers flat_map to_bytes
numbers_read [] rest b = refl
numbers_read (x ∷ w) rest (more h b) =
    ap₂ (λ (a : ℕ) (l : List ℕ). a ∷ l) (from_bytes-to_bytes 2 x h) (numbers_read w rest b)

-- a filed layout that a record has room for
pub record Fits (f : Filed) : Type 0 where
  pub die_fits : f.die < 4294967296
  pub dim_fits : f.layout.n < 256
  pub darts_fit : f.layout.m < 65536
  pub long : length f.layout.table ≡ f.layout.n * f.layout.m
  pub small : f.layout.n * f.layout.m ≤ 1020
  pub table_fits : Below 65536 f.layout.table

-- what follows the word: zeros
abbrev zeros : Filed → List ℕ
zeros f = replicate (record_size - 8 - 2 * (f.layout.n * f.layout.m)) 0

-- the bytes one by one up to the word
record_bytes-parts : (f : Filed) → record_bytes f ≡
    to_bytes 4 f.die ++ (to_bytes 1 f.layout.n ++ (0 ∷ to_bytes 2 f.layout.m ++ (table_bytes f.layout.table ++ zeros f)))
unfolding record_bytes to_bytes
record_bytes-parts f = refl

pub all_zero-replicate : (k : ℕ) → all_zero (replicate k 0) ≡ true
unfolding all_zero
all_zero-replicate zero = refl
all_zero-replicate (suc k) = all_zero-replicate k

-- a record is 2,048 bytes long, whatever its numbers are
module _ (f : Filed) (long : length f.layout.table ≡ f.layout.n * f.layout.m) where
  length_word : length (table_bytes f.layout.table) ≡ 2 * (f.layout.n * f.layout.m)
  length_word = length_table_bytes f.layout.table ∙ ap (λ (k : ℕ). 2 * k) long

  pub length_record_bytes : f.layout.n * f.layout.m ≤ 1020 → length (record_bytes f) ≡ record_size
  unfolding record_size
  length_record_bytes small =
      rw (record_bytes-parts f)
      (simp (length-append, length-to_bytes, length-replicate, length_word) (omega arith))

module _ (f : Filed) (r : Fits f) where
  pub record_bytes_below : Below 256 (record_bytes f)
  record_bytes_below =
      rw (record_bytes-parts f)
      (below_append (to_bytes_below 4 f.die)
      (below_append (to_bytes_below 1 f.layout.n)
      (more (omega arith)
      (below_append (to_bytes_below 2 f.layout.m)
      (below_append (table_bytes_below f.layout.table) (below_replicate 256 (record_size - 8 - 2 * (f.layout.n * f.layout.m)) (omega arith)))))))

  dim_read : f.layout.n % 256 ≡ f.layout.n
  dim_read = mod-eq_of_lt r.dim_fits

  darts_read : from_bytes (to_bytes 2 f.layout.m) ≡ f.layout.m
  darts_read = from_bytes-to_bytes 2 f.layout.m r.darts_fit

  table_read_lem : numbers (f.layout.n * f.layout.m) (table_bytes f.layout.table ++ zeros f) ≡ f.layout.table
  table_read_lem =
      ap (λ (k : ℕ). numbers k (table_bytes f.layout.table ++ zeros f)) (sym r.long) ∙ numbers_read f.layout.table (zeros f) r.table_fits

  pub filed_in_record_bytes : filed_in (record_bytes f) ≡ f
  unfolding filed_in record_bytes to_bytes nth
  filed_in_record_bytes =
      (λ i.
      record {
        die = from_bytes-to_bytes 4 f.die r.die_fits i;
        layout = lent (dim_read i) (darts_read i) (numbers (dim_read i * darts_read i) (table_bytes f.layout.table ++ zeros f));
      })
      ∙ (λ i. record { die = f.die; layout = lent f.layout.n f.layout.m (table_read_lem i) })

  pub zero_byte_in_record_bytes : zero_byte_in (record_bytes f) ≡ 0
  unfolding zero_byte_in record_bytes to_bytes nth
  zero_byte_in_record_bytes = refl

  -- the bytes after the first eight
  drop_record_bytes : drop 8 (record_bytes f) ≡ table_bytes f.layout.table ++ zeros f
  unfolding record_bytes to_bytes
  drop_record_bytes = refl

  pub filling_in_record_bytes : all_zero (filling_in (record_bytes f)) ≡ true
  unfolding filling_in
  filling_in_record_bytes =
      rw (filed_in_record_bytes, ← drop-drop (2 * (f.layout.n * f.layout.m)) 8 (record_bytes f), drop_record_bytes, drop_at (table_bytes f.layout.table) (zeros f) (2 * (f.layout.n * f.layout.m)) (length_word f r.long))
      (all_zero-replicate (record_size - 8 - 2 * (f.layout.n * f.layout.m)))

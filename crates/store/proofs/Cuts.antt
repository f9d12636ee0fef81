-- Reading and writing the bytes is reading and writing the pages.
use Rattle.std.proofs.Common.{◌≡◌, ℕ, zero, suc, ◌+◌, ◌*◌, ◌/◌, ◌%◌, ◌<◌, ◌≤◌, true, eqb, ltb, Ok, List, [], ◌∷◌, ◌++◌, length, get_or, take, drop, set, replicate, refl, ap, ◌∙◌, arith, rules, length-append, length-drop, length-set, take-append-drop, length-take, get_or-drop, get_or-take, drop-drop, take_at, drop-set-lt, drop_at}
use lib.Seq.{take-set-lt, take-set-le, drop-set-add, take-append-le, drop-append-le}
use Rattle.store.specs.Memories.{sound, spoilt, reading, writing, written, cleared}
use Rattle.store.specs.Eeproms.{cut, memory_of}

pub cut_at : (n k : ℕ) (xs : List ℕ) → k < n → get_or (cut n xs) k spoilt ≡ sound (take 256 (drop (256 * k) xs))
unfolding cut
cut_at zero k xs h = absurd (omega arith)
cut_at (suc n) zero xs h = refl
cut_at (suc n) (suc k) xs h =
    let lt : k < n = omega arith in
    let e : 256 + 256 * k ≡ 256 * suc k = omega arith in
    simp (cut_at n k (drop 256 xs) lt, drop-drop, e)

pub cut_set : (n k j : ℕ) (xs : List ℕ) (b : ℕ) → k < n → j < 256 → cut n (set xs (256 * k + j) b) ≡ set (cut n xs) k (sound (set (take 256 (drop (256 * k) xs)) j b))
unfolding cut
cut_set zero k j xs b h l = absurd (omega arith)
cut_set (suc n) zero j xs b h l =
    let e : 256 * 0 + j ≡ j = omega arith in
    simp (e, take-set-lt 256 xs j b l, drop-set-lt 256 xs j b l)
cut_set (suc n) (suc k) j xs b h l =
    let lt : k < n = omega arith in
    let e : 256 * suc k + j ≡ 256 + (256 * k + j) = omega arith in
    let f : 256 + 256 * k ≡ 256 * suc k = omega arith in
    simp (e, take-set-le 256 xs (256 + (256 * k + j)) b (omega arith), drop-set-add 256 xs (256 * k + j) b, cut_set n k j (drop 256 xs) b lt l, drop-drop, f)

pub cut_read : (p : ℕ) (xs : List ℕ) → get_or (take 256 (drop (256 * (p / 256)) xs)) (p % 256) 0 ≡ get_or xs p 0
cut_read p xs =
    let lt : p % 256 < 256 = omega arith in
    let e : 256 * (p / 256) + p % 256 ≡ p = omega arith in
    simp (get_or-take, get_or-drop, e)

-- the bytes before, a page, the bytes after
pub cut_page : (n k : ℕ) (xs ys zs : List ℕ) → k < n → length xs ≡ 256 * k → length ys ≡ 256 → (bs : List ℕ) → length bs ≡ 256 → cut n (xs ++ (ys ++ zs)) ≡ set (cut n (xs ++ (bs ++ zs))) k (sound ys)
unfolding cut
cut_page zero k xs ys zs h l m bs o = absurd (omega arith)
cut_page (suc n) zero [] ys zs h l m bs o =
    rw (take_at ys zs 256 m, drop_at ys zs 256 m, drop_at bs zs 256 o)
cut_page (suc n) zero (x ∷ xs) ys zs h l m bs o = absurd (omega arith)
cut_page (suc n) (suc k) xs ys zs h l m bs o =
    let long : 256 ≤ length xs = omega arith in
    let short : length (drop 256 xs) ≡ 256 * k = simp length-drop (omega arith) in
    let lt : k < n = omega arith in
    simp (take-append-le, drop-append-le, cut_page n k (drop 256 xs) ys zs lt short m bs o)

pub cut_clear : (q : ℕ) (xs ys : List ℕ) → q < 8 → length xs ≡ 2048 → length ys ≡ 256 → cut 8 (take (256 * q) xs ++ (ys ++ drop 256 (drop (256 * q) xs))) ≡ set (cut 8 xs) q (sound ys)
cut_clear q xs ys h l m =
    let a : List ℕ = take (256 * q) xs in
    let bs : List ℕ = take 256 (drop (256 * q) xs) in
    let zs : List ℕ = drop 256 (drop (256 * q) xs) in
    let la : length a ≡ 256 * q = simp length-take (omega arith) in
    let lb : length bs ≡ 256 = simp (length-take, length-drop) (omega arith) in
    let whole : a ++ (bs ++ zs) ≡ xs = ap (λ t. a ++ t) (take-append-drop 256 (drop (256 * q) xs)) ∙ take-append-drop (256 * q) xs in
    cut_page 8 q a ys zs h la m bs lb ∙ ap (λ t. set (cut 8 t) q (sound ys)) whole

-- what a store means that is lent 2,048 bytes
pub reading_lent : (p : ℕ) (xs : List ℕ) → length xs ≡ 2048 → p < 2048 → Ok (get_or xs p 0) ≡ reading p (memory_of xs)
reading_lent p xs l h =
    let len : eqb (length xs) 2048 ≡ true = search rules in
    let low : ltb p 2048 ≡ true = search rules in
    let lt : p / 256 < 8 = omega arith in
    simp (len, low, cut_at 8 (p / 256) xs lt, cut_read p xs)

pub writing_lent : (p : ℕ) (xs : List ℕ) → length xs ≡ 2048 → p < 2048 → Ok tt ≡ writing p (memory_of xs)
writing_lent p xs l h =
    let len : eqb (length xs) 2048 ≡ true = search rules in
    let low : ltb p 2048 ≡ true = search rules in
    let lt : p / 256 < 8 = omega arith in
    simp (len, low, cut_at 8 (p / 256) xs lt)

pub written_lent : (p b : ℕ) (xs : List ℕ) → length xs ≡ 2048 → p < 2048 → memory_of (set xs p b) ≡ written p b (memory_of xs)
written_lent p b xs l h =
    let len : eqb (length xs) 2048 ≡ true = search rules in
    let low : ltb p 2048 ≡ true = search rules in
    let lt : p / 256 < 8 = omega arith in
    let e : 256 * (p / 256) + p % 256 ≡ p = omega arith in
    let s = cut_set 8 (p / 256) (p % 256) xs b lt (omega arith) in
    let s' = rw e at s in
    simp (length-set, len, low, cut_at 8 (p / 256) xs lt, s')

pub cleared_lent : (q : ℕ) (xs : List ℕ) → length xs ≡ 2048 → q < 8 → memory_of (take (256 * q) xs ++ (replicate 256 255 ++ drop 256 (drop (256 * q) xs))) ≡ cleared q (memory_of xs)
cleared_lent q xs l h =
    let len : eqb (length xs) 2048 ≡ true = search rules in
    let low : ltb q 8 ≡ true = search rules in
    let long : length (take (256 * q) xs ++ (replicate 256 255 ++ drop 256 (drop (256 * q) xs))) ≡ 2048 = simp (length-append, length-take, length-drop) (omega arith) in
    let len' : eqb (length (take (256 * q) xs ++ (replicate 256 255 ++ drop 256 (drop (256 * q) xs)))) 2048 ≡ true = search rules in
    simp (len', len, low, cut_clear q xs (replicate 256 255) h l refl)

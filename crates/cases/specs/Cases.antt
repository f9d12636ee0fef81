-- Worked cases of the rules.
use Rattle.std.specs.Prelude.{ℕ, ◌-◌, Bool, true, false, ◌&&◌, List, [], ◌∷◌, ◌++◌, length, replicate, Ok, Err, codes, Result, ◌==◌}
use Rattle.isa.specs.Places.{image_size}
use Rattle.isa.specs.Refusals.{number_of}
use Rattle.sequence.specs.declared.image.ImageFault.{ImageFault}
use Rattle.sequence.specs.declared.text.TextFault.{TextFault}
use Rattle.sequence.specs.Listings.{listed}
use Rattle.sequence.specs.Translations.{Translation, translation}

pub data Case : Type 0 where
  -- a text is translated into an image that begins so and holds 255 elsewhere
  translates : List ℕ → List ℕ → Case
  -- it is refused with this number at this line and column
  untranslated : List ℕ → ℕ → ℕ → ℕ → Case
  -- an image that begins so and holds 255 elsewhere has this listing
  lists : List ℕ → List ℕ → Case
  -- it is refused with this number at this place
  unlisted : List ℕ → ℕ → ℕ → Case
  -- so many bytes of image, so many of output: refused with this number at place 0
  unsized : ℕ → ℕ → ℕ → Case

abbrev pub same : List ℕ → List ℕ → Bool
same [] [] = true
same [] (y ∷ ys) = false
same (x ∷ xs) [] = false
same (x ∷ xs) (y ∷ ys) = x == y && same xs ys

abbrev pub image : List ℕ → List ℕ
image front = front ++ replicate (image_size - length front) 255

abbrev pub gives : Result (List ℕ) ImageFault → List ℕ → Bool
gives (Ok text) want = same text want
gives (Err f) want = false

abbrev pub refuses : Result (List ℕ) ImageFault → ℕ → ℕ → Bool
refuses (Ok text) n p = false
refuses (Err f) n p = number_of f.refusal == n && f.place == p

abbrev pub yields : Result Translation TextFault → List ℕ → Bool
yields (Ok t) want = same t.image want
yields (Err f) want = false

abbrev pub names : Result Translation TextFault → ℕ → ℕ → ℕ → Bool
names (Ok t) n l c = false
names (Err f) n l c = number_of f.refusal == n && (f.line == l && f.column == c)

abbrev pub passes : Case → Bool
passes (translates text front) = yields (translation text) (image front)
passes (untranslated text n l c) = names (translation text) n l c
passes (lists front text) = gives (listed (image front) 16384) text
passes (unlisted front n p) = refuses (listed (image front) 16384) n p
passes (unsized size room n) = refuses (listed (replicate size 255) room) n 0

abbrev pub all_pass : List Case → Bool
all_pass [] = true
all_pass (c ∷ cs) = passes c && all_pass cs

-- so many places that hold 255
abbrev pub after : ℕ → List ℕ → List ℕ
after n bytes = replicate n 255 ++ bytes

-- O 0, R 1200, W 0, R -1200, W 43, J 4 2
abbrev pub worked_image : List ℕ
worked_image = 79 ∷ 0 ∷ 0 ∷ 0 ∷ 82 ∷ 176 ∷ 4 ∷ 0 ∷ 87 ∷ 0 ∷ 0 ∷ 82 ∷ 80 ∷ 251 ∷ 255 ∷ 87 ∷ 43 ∷ 0 ∷ 74 ∷ 4 ∷ 0 ∷ 2 ∷ []

abbrev pub worked_listing : List ℕ
worked_listing = codes "at 0\n0 O 0\n4 R 1200\n8 W 0\n11 R -1200\n15 W 43\n18 J 4 2\n"

abbrev pub worked_text : List ℕ
worked_text = codes "at 0\nO 0\nback: R 1200\nW 0\nR -1200\nW 43\nJ back 2\n"

abbrev pub cases : List Case
cases =
    translates worked_text worked_image
    ∷ translates worked_listing worked_image
    -- a place was cut out of the listing: the next one is stale
    ∷ untranslated (codes "at 0\n4 R 1200\n8 W 0\n11 R -1200\n15 W 43\n18 J 4 2\n") 7 2 1
    -- the mark of a W at 190 would stand at 193
    ∷ untranslated (codes "at 190\nW 0\n") 8 2 0
    ∷ untranslated (codes "at 190\nW 0\nZ") 8 2 0
    -- stretches in any order, side by side
    ∷ translates (codes "at 2\nZ\nat 0\nZ") (90 ∷ 255 ∷ 90 ∷ [])
    ∷ untranslated (codes "at 2\nZ\nat 0\nZ\nZ\nZ\n") 11 5 0
    -- what touches a letter is its operand
    ∷ untranslated (codes "at 0\n-5 Z") 5 2 0
    ∷ untranslated (codes "at 0\n+-5") 6 2 1
    ∷ untranslated (codes "at 0\nA64") 6 2 1
    -- eight digits at most
    ∷ untranslated (codes "at 0\n123456789 Z") 3 2 1
    ∷ untranslated (codes "at 123456789") 5 1 0
    ∷ untranslated (codes "at 0\nG 123456789") 6 2 3
    -- targets and labels
    ∷ untranslated (codes "at 0\nG 5") 10 2 3
    ∷ untranslated (codes "at 0\nGx") 9 2 1
    ∷ untranslated (codes "at 0\nx: Z\nx: Z") 9 3 1
    ∷ translates (codes "at 0\nat: G at\n, ,\n") (71 ∷ 0 ∷ 0 ∷ [])
    ∷ untranslated (codes "0 at 5") 3 1 3
    ∷ untranslated (codes "Z") 8 1 0
    ∷ untranslated (codes "at 0\nA 64 x") 5 2 0
    ∷ untranslated (codes "at 0\n200 Z") 8 2 0
    ∷ untranslated (codes "at 0\nz") 3 2 1
    ∷ lists worked_image worked_listing
    -- nothing is listed of nothing
    ∷ lists [] []
    -- two stretches, one mark between
    ∷ lists (90 ∷ 255 ∷ 90 ∷ []) (codes "at 0\n0 Z\nat 2\n2 Z\n")
    -- the last instruction that the low places and that the high places hold
    ∷ lists (after 191 (90 ∷ [])) (codes "at 191\n191 Z\n")
    ∷ lists (after 2046 (90 ∷ [])) (codes "at 2046\n2046 Z\n")
    -- no place for the mark
    ∷ unlisted (after 190 (87 ∷ 0 ∷ 0 ∷ [])) 8 193
    ∷ unlisted (after 2047 (90 ∷ [])) 8 2048
    -- a reserved place
    ∷ unlisted (after 200 (90 ∷ [])) 8 200
    -- no letter: the letters are upper case
    ∷ unlisted (107 ∷ 1 ∷ 1 ∷ []) 15 0
    -- an operand outside its range
    ∷ unlisted (75 ∷ 1 ∷ 0 ∷ []) 6 0
    -- a target inside an instruction; the walk comes before the targets
    ∷ unlisted (71 ∷ 1 ∷ 0 ∷ []) 10 0
    ∷ unlisted (71 ∷ 1 ∷ 0 ∷ 107 ∷ []) 15 3
    -- sizes come first
    ∷ unsized 2047 16384 1
    ∷ unsized 2048 16383 1
    ∷ []

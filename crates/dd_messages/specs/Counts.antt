-- The line that says how many images a file-set has, or would have, and how many bytes: words, or a JSON object (RFC
-- 8259).
use Rattle.std.specs.Prelude.{ℕ, List, [], ◌∷◌, ◌++◌, codes}
use Rattle.std.specs.Fmt.{decimal}
use Rattle.std.specs.List.{concat}
use Rattle.dd_json.specs.declared.value.Style.{Style}
use Rattle.dd_json.specs.declared.value.Style.TheVariants.{Text, Json}
use Rattle.dd_json.specs.Values.{count, json_line, object_of}
use Rattle.dd_messages.specs.declared.counts.Ending.{Ending}
use Rattle.dd_messages.specs.declared.counts.Ending.TheVariants.{Done, Planned}
use Rattle.serde_json.specs.Data.{Data, string}

-- a line of these parts: a word, the number of instances, the number of bytes of the directory, both as texts, and
-- what stands after them
abbrev pub count_parts : List ℕ → List ℕ → List ℕ → List (List ℕ) → List ℕ
count_parts word instances bytes behind =
    concat (word ∷ codes " " ∷ instances ∷ codes " instances, " ∷ bytes ∷ behind) ++ 10 ∷ []

-- the word for a file-set that was made, and for one that would be made
abbrev pub word_of : Ending → List ℕ
word_of Done = codes "DONE"
word_of Planned = codes "PLAN"

-- ---- the last line of a command whose file-set has, or would have, this number of instances and a directory with this
-- number of bytes

abbrev pub counts_words : List ℕ → ℕ → ℕ → List ℕ
counts_words word instances bytes = count_parts word (decimal instances) (decimal bytes) (codes " bytes" ∷ [])

abbrev pub counts_json : List ℕ → ℕ → ℕ → Data
counts_json word instances bytes = object_of (
    (codes "line", string word) ∷ (codes "instances", count instances) ∷ (codes "bytes", count bytes) ∷ [])

abbrev pub ending_text : Style → Ending → ℕ → ℕ → List ℕ
ending_text Text ending instances bytes = counts_words (word_of ending) instances bytes
ending_text Json ending instances bytes = json_line (counts_json (word_of ending) instances bytes)

-- ---- the line of one that would be made, with the number of bytes of the images

abbrev pub images_words : ℕ → ℕ → ℕ → List ℕ
images_words instances bytes images = count_parts (codes "PLAN") (decimal instances) (decimal bytes)
    (codes " bytes, " ∷ decimal images ∷ codes " bytes of images" ∷ [])

abbrev pub images_json : ℕ → ℕ → ℕ → Data
images_json instances bytes images = object_of (
    (codes "line", string (codes "PLAN")) ∷ (codes "instances", count instances) ∷ (codes "bytes", count bytes)
    ∷ (codes "image_bytes", count images) ∷ [])

abbrev pub images_text : Style → ℕ → ℕ → ℕ → List ℕ
images_text Text instances bytes images = images_words instances bytes images
images_text Json instances bytes images = json_line (images_json instances bytes images)

-- The entries of the table of definitions: what their labels stand for, and one entry more.
use Rattle.std.proofs.Common.{◌≡◌, ℕ, zero, suc, ◌<◌, List, [], ◌∷◌, ◌++◌, length, get_or, Option, Some, None, is_some, IfSome, Result, Ok, Err, OnErr, Bool, true, false, cond, ◌||◌, refl, sym, ap, subst, ◌∙◌, arith}
use Rattle.std.proofs.lemmas.Bool.{false_from_ne_true, cond-true, cond-false}
use Rattle.std.proofs.lemmas.List.{get_or-map, length-map, map-append}
use Rattle.std.proofs.lemmas.Slice.Eq.{bytes_eq-Decides}
use Rattle.cm_text.specs.Rules.{Rules}
use Rattle.cm_text.specs.Addresses.{is_web_address, is_followed}
use Rattle.cm_tree.specs.declared.entries.Entry.{Entry}
use Rattle.cm_tree.specs.declared.label_index.LabelIndex.{LabelIndex}
use Rattle.cm_tree.specs.Definitions.{Target, Targets, target_under, target_numbered, target_if_followed, add_first}
use Rattle.cm_tree.specs.steps.KeptTexts.{kept_target, Keeps, GoesOn}
use Rattle.cm_tree.specs.steps.LabelIndex.{hash_of, home, crowded, IsLabel, IsIndex, AreDistinct, IsNew, IsPassed, GoesIn, IsSame, IsThere}
use Rattle.cm_tree.specs.steps.Entries.{label_in, labels_in, entries_in, IsEntry, AreEntries, AreKept, IsMade}
use Rattle.cm_tree.proofs.lemmas.KeptLemmas.{label-same, target-same, kept-grows}
use Rattle.cm_tree.proofs.lemmas.IndexLemmas.{put-index, same-index, distinct-more, goes-in-new, some-there}

-- one of the entries

entry-at : (text : List ℕ) (es : List Entry) (i : ℕ) (d : Entry) → AreEntries text es → i < length es → IsEntry text (get_or es i d)
entry-at text [] i d are within = absurd (omega arith)
entry-at text (e ∷ es) zero d are within = are.0
entry-at text (e ∷ es) (suc i) d are within = entry-at text es i d are.1 (omega arith)

label-at : (text : List ℕ) (es : List Entry) (i : ℕ) (d : Entry) → i < length es → get_or (labels_in text es) i [] ≡ label_in text (get_or es i d)
label-at text es i d within = get_or-map (label_in text) es i d [] within

-- the same of what a read gave

pub read-entry : (text : List ℕ) (es : List Entry) (i : ℕ) (e : Entry) → AreEntries text es → i < length es → e ≡ get_or es i e → IsEntry text e
read-entry text es i e are within is = subst (IsEntry text) (sym is) (entry-at text es i e are within)

pub read-label : (text : List ℕ) (es : List Entry) (i : ℕ) (e : Entry) → i < length es → e ≡ get_or es i e → get_or (labels_in text es) i [] ≡ label_in text e
read-label text es i e within is = label-at text es i e within ∙ ap (label_in text) (sym is)

pub count : (text : List ℕ) (es : List Entry) → length (labels_in text es) ≡ length es
count text es = length-map es (label_in text)

-- while the text grows

entry-grows : (old new : List ℕ) (e : Entry) → GoesOn old new → IsEntry old e → IsEntry new e
entry-grows old new e grows is = record {
  kept = kept-grows old new e.texts grows is.kept;
  hash = is.hash ∙ ap hash_of (sym (label-same old new e.texts grows is.kept));
  web = is.web ∙ ap (λ t. is_web_address t.0) (sym (target-same old new e.texts grows is.kept));
}

pub labels-same : (old new : List ℕ) (es : List Entry) → GoesOn old new → AreEntries old es → labels_in new es ≡ labels_in old es
labels-same old new [] grows are = refl
labels-same old new (e ∷ es) grows are = λ i. label-same old new e.texts grows are.0.kept i ∷ labels-same old new es grows are.1 i

pub entries-same : (old new : List ℕ) (es : List Entry) → GoesOn old new → AreEntries old es → entries_in new es ≡ entries_in old es
entries-same old new [] grows are = refl
entries-same old new (e ∷ es) grows are =
    λ i. (label-same old new e.texts grows are.0.kept i, target-same old new e.texts grows are.0.kept i) ∷ entries-same old new es grows are.1 i

pub entries-grow : (old new : List ℕ) (es : List Entry) → GoesOn old new → AreEntries old es → AreEntries new es
entries-grow old new [] grows are = tt
entries-grow old new (e ∷ es) grows are = (entry-grows old new e grows are.0, entries-grow old new es grows are.1)

pub kept-grow : (old new : List ℕ) (es : List Entry) (index : LabelIndex) → GoesOn old new → AreKept old es index → AreKept new es index
kept-grow old new es index grows are = record {
  there = entries-grow old new es grows are.there;
  distinct = subst AreDistinct (sym (labels-same old new es grows are.there)) are.distinct;
  found = subst (IsIndex index) (sym (labels-same old new es grows are.there)) are.found;
}

-- an entry of texts that are kept

pub made : (text : List ℕ) (e : Entry) (label : List ℕ) (target : Target) → Keeps text e.texts label target → e.hash ≡ hash_of label → e.is_web ≡ is_web_address target.0
    → IsMade text e label target
made text e label target keeps hash web = record {
  there = record { kept = keeps.there; hash = hash ∙ ap hash_of (sym keeps.is_label); web = web ∙ ap (λ t. is_web_address t.0) (sym keeps.is_target) };
  is_label = keeps.is_label;
  is_target = keeps.is_target;
}

-- what a label has

reads-new : (text : List ℕ) (es : List Entry) (label : List ℕ) → IsNew (labels_in text es) label → target_under label (entries_in text es) ≡ None
reads-new text [] label new = refl
reads-new text (e ∷ es) label new =
    cond-false _ _ _ (false_from_ne_true _ (λ t. new 0 (omega arith) ((bytes_eq-Decides (label_in text e) label).0 t)))
    ∙ reads-new text es label (λ i within. new (suc i) (omega arith))

reads-label : (text : List ℕ) (es : List Entry) (i : ℕ) (d : Entry) (label : List ℕ) → AreDistinct (labels_in text es) → IsLabel (labels_in text es) i label
    → target_under label (entries_in text es) ≡ Some (kept_target text (get_or es i d).texts)
reads-label text [] i d label distinct is = absurd (let w = is.0 in omega arith)
reads-label text (e ∷ es) zero d label distinct is = cond-true _ _ _ ((bytes_eq-Decides (label_in text e) label).1 is.1)
reads-label text (e ∷ es) (suc i) d label distinct is = let w = is.0 in
    cond-false _ _ _ (false_from_ne_true _ (λ t. distinct 0 (suc i) (omega arith) w ((bytes_eq-Decides (label_in text e) label).0 t ∙ sym is.1)))
    ∙ reads-label text es i d label (λ j k less within. distinct (suc j) (suc k) (omega arith) (omega arith)) ((omega arith), is.1)

-- what a table has, if contracts see it as this value

if-asked : (b : Bool) (target : Target) → elim b [ true ↦ Some target | false ↦ None ] ≡ cond b (Some target) None
if-asked true target = refl
if-asked false target = refl

module _ (text : List ℕ) (es : List Entry) (value : Targets) (is : entries_in text es ≡ value) where
  pub count-value : length value ≡ length es
  count-value = ap length (sym is) ∙ length-map es (λ d. (label_in text d, kept_target text d.texts))

  pub has-none : (label : List ℕ) → IsNew (labels_in text es) label → target_under label value ≡ None
  has-none label new = ap (target_under label) (sym is) ∙ reads-new text es label new

  pub has-numbered : (i : ℕ) (e : Entry) → i < length es → e ≡ get_or es i e → target_numbered value i ≡ kept_target text e.texts
  has-numbered i e within read =
      ap (λ v. target_numbered v i) (sym is)
      ∙ ap (λ (d : List ℕ × Target). d.1) (get_or-map (λ d. (label_in text d, kept_target text d.texts)) es i e ([], ([], [])) within)
      ∙ ap (λ d. kept_target text d.texts) (sym read)

  pub has-under : (i : ℕ) (e : Entry) (label : List ℕ) → AreDistinct (labels_in text es) → IsLabel (labels_in text es) i label → e ≡ get_or es i e
      → target_under label value ≡ Some (kept_target text e.texts)
  has-under i e label distinct there read =
      ap (target_under label) (sym is) ∙ reads-label text es i e label distinct there ∙ ap (λ d. Some (kept_target text d.texts)) (sym read)

  -- if the rules follow its address, as the entry has it
  pub has-followed : (i : ℕ) (e : Entry) (label : List ℕ) (rules : Rules) (followed : Bool) → AreEntries text es → AreDistinct (labels_in text es) → IsLabel (labels_in text es) i label
      → e ≡ get_or es i e → followed ≡ (rules.any_address || e.is_web) → target_if_followed rules (target_under label value) ≡ cond followed (Some (target_numbered value i)) None
  has-followed i e label rules followed are distinct there read asked =
      let all = count text es in
      let within : i < length es = let w = there.0 in omega arith in
      let web = (read-entry text es i e are within read).web in
      ap (target_if_followed rules) (has-under i e label distinct there read)
      ∙ if-asked (is_followed rules (kept_target text e.texts).0) (kept_target text e.texts)
      ∙ ap (λ w. cond (rules.any_address || w) (Some (kept_target text e.texts)) None) (sym web)
      ∙ ap (λ b. cond b (Some (kept_target text e.texts)) None) (sym asked)
      ∙ ap (λ target. cond followed (Some target) None) (sym (has-numbered i e within read))

-- the text has grown, and nothing else has changed

pub same-targets : (old new : List ℕ) (es : List Entry) (value : Targets) → GoesOn old new → AreEntries old es → entries_in old es ≡ value
    → entries_in new es ≡ value
same-targets old new es value grows are is = entries-same old new es grows are ∙ is

pub on-err : (E : Type 0) {P : Type 0} (told : Result (Unit {0}) E) → P → OnErr told P
on-err E (Ok u) p = tt
on-err E (Err f) p = p

-- what a search in the slots found, given the text, the entries and the slots that were lent to it

module _ (text lent_text : List ℕ) (es lent_es : List Entry) (label : List ℕ) (found : Option ℕ) (same_text : lent_text ≡ text) (same_es : lent_es ≡ es) where
  labels : labels_in lent_text lent_es ≡ labels_in text es
  labels = ap (λ t. labels_in t lent_es) same_text ∙ ap (labels_in text) same_es

  pub met : IfSome found (λ entry. IsLabel (labels_in lent_text lent_es) entry label) → IfSome found (λ entry. IsLabel (labels_in text es) entry label)
  met there = subst (λ ls. IfSome found (λ entry. IsLabel ls entry label)) labels there

  pub passed : (slots lent_slots : List ℕ) (hash : ℕ) → lent_slots ≡ slots → hash ≡ hash_of label → is_some found ≡ false
      → (found ≡ None → IsPassed lent_slots (home lent_slots hash) (labels_in lent_text lent_es) label) → IsPassed slots (home slots (hash_of label)) (labels_in text es) label
  passed slots lent_slots hash same_slots hashed missed absent =
      subst (λ ls. IsPassed slots (home slots (hash_of label)) ls label) labels
      (subst (λ ss. IsPassed ss (home ss (hash_of label)) (labels_in lent_text lent_es) label) same_slots
      (subst (λ h. IsPassed lent_slots (home lent_slots h) (labels_in lent_text lent_es) label) hashed (absent (none found missed))))
    where
      none : (found : Option ℕ) → is_some found ≡ false → found ≡ None
      none None missed = refl
      none (Some entry) missed = cc

-- what adding changes

module _ (text : List ℕ) (es : List Entry) (value : Targets) (is : entries_in text es ≡ value) (label : List ℕ) (target : Target) where
  pub add-new : IsNew (labels_in text es) label → add_first value label target ≡ value ++ (label, target) ∷ []
  add-new new = cond-false _ _ _ (ap is_some (has-none text es value is label new))

  pub add-there : AreDistinct (labels_in text es) → (i : ℕ) → IsLabel (labels_in text es) i label → add_first value label target ≡ value
  add-there distinct i there = cond-true _ _ _ (ap (λ v. is_some (target_under label v)) (sym is) ∙ reads-some text es i label distinct there)
    where
      reads-some : (text : List ℕ) (es : List Entry) (i : ℕ) (label : List ℕ) → AreDistinct (labels_in text es) → IsLabel (labels_in text es) i label
          → is_some (target_under label (entries_in text es)) ≡ true
      reads-some text [] i label distinct is = absurd (let w = is.0 in omega arith)
      reads-some text (e ∷ es) i label distinct is = ap is_some (reads-label text (e ∷ es) i e label distinct is)

  pub add-met : AreDistinct (labels_in text es) → (found : Option ℕ) → IfSome found (λ i. IsLabel (labels_in text es) i label) → is_some found ≡ true → add_first value label target ≡ value
  add-met distinct (Some i) there some = add-there distinct i there
  add-met distinct None there some = cc

  pub add-crowded : (before after : LabelIndex) → AreKept text es before → IsThere before after label → add_first value label target ≡ value
  add-crowded before after are there =
      some-there before (labels_in text es) label (crowded before label) are.found refl there.there _ (λ entry it. add-there are.distinct entry it)

-- one entry more, whose label isn't there

module _ (text : List ℕ) (es now : List Entry) (e : Entry) (before after : LabelIndex) (label : List ℕ) (target : Target)
    (are : AreKept text es before) (made : IsMade text e label target) (new : IsNew (labels_in text es) label) (is : now ≡ es ++ e ∷ []) where
  labels-now : labels_in text es ++ label ∷ [] ≡ labels_in text now
  labels-now = ap (λ l. labels_in text es ++ l ∷ []) (sym made.is_label) ∙ sym (ap (labels_in text) is ∙ map-append (label_in text) es (e ∷ []))

  kept-more : GoesIn before after label (length es) → AreKept text now after
  kept-more put = record {
    there = subst (AreEntries text) (sym is) (all es are.there);
    distinct = subst AreDistinct labels-now (distinct-more (labels_in text es) label are.distinct new);
    found = subst (IsIndex after) labels-now (put-index before after (labels_in text es) label are.found new (subst (GoesIn before after label) (sym (count text es)) put));
  }
    where
      all : (ds : List Entry) → AreEntries text ds → AreEntries text (ds ++ e ∷ [])
      all [] them = (made.there, tt)
      all (d ∷ ds) them = (them.0, all ds them.1)

  entries-more : entries_in text now ≡ entries_in text es ++ (label, target) ∷ []
  entries-more =
      ap (entries_in text) is
      ∙ map-append (λ d. (label_in text d, kept_target text d.texts)) es (e ∷ [])
      ∙ (λ i. entries_in text es ++ (made.is_label i, made.is_target i) ∷ [])

-- the same after the text has grown, and where nothing else has changed

module _ (old text : List ℕ) (es now : List Entry) (before after : LabelIndex) (value : Targets) (grows : GoesOn old text) (are : AreKept old es before) (is : entries_in old es ≡ value) where
  grown : AreKept text es before
  grown = kept-grow old text es before grows are

  value-is : entries_in text es ≡ value
  value-is = same-targets old text es value grows are.there is

  pub same-kept : now ≡ es → IsSame before after → AreKept text now after
  same-kept same index =
      subst (λ ds. AreKept text ds after) (sym same) (record { there = grown.there; distinct = grown.distinct; found = same-index before after (labels_in text es) index grown.found })

  pub same-is : now ≡ es → entries_in text now ≡ value
  same-is same = ap (entries_in text) same ∙ value-is

  module _ (e : Entry) (label : List ℕ) (target : Target) (made : IsMade text e label target)
      (passed : IsPassed before.slots.items (home before.slots.items (hash_of label)) (labels_in old es) label)
      (more : now ≡ es ++ e ∷ []) (put : GoesIn before after label (length es)) where
    new : IsNew (labels_in text es) label
    new = subst (λ ls. IsNew ls label) (sym (labels-same old text es grows are.there))
        (goes-in-new before after (labels_in old es) label are.found passed (subst (GoesIn before after label) (sym (count old es)) put))

    pub added-kept : AreKept text now after
    added-kept = kept-more text es now e before after label target grown made new more put

    pub added-is : entries_in text now ≡ add_first value label target
    added-is =
        entries-more text es now e before after label target grown made new more
        ∙ ap (λ v. v ++ (label, target) ∷ []) value-is
        ∙ sym (add-new text es value value-is label target new)

use Rattle.std.proofs.Common.{◌≡◌, Some, None, position, ap, sym, ◌∙◌}
use Rattle.cm_text.specs.Characters.{is_space_or_tab}
use Rattle.cm_json.specs.Mdast.{is_plain_info}
use Rattle.cm_json.proofs.lemmas.CodeLemmas.{plain-word, space-gap, other-gap}
use Rattle.cm_json.proofs.code.is_plain_info.Goals as goal

pub returns-then-bytes-at-eq32 : goal.returns-then-bytes-at-eq32
returns-then-bytes-at-eq32 c =
    let bytes = c.as_bytes-bytes.result.now in
    let found : position is_space_or_tab bytes ≡ Some c.in-Some.at = sym c.find_space_or_tab.ensures ∙ c.in-Some.is in
    c.starts_without_space.ensures ∙ space-gap bytes c.in-Some.at found c.if-bytes-at-eq32.true ∙ ap is_plain_info c.as_bytes-bytes.ensures.value

pub returns-else-bytes-at-eq32 : goal.returns-else-bytes-at-eq32
returns-else-bytes-at-eq32 c =
    let bytes = c.as_bytes-bytes.result.now in
    let found : position is_space_or_tab bytes ≡ Some c.in-Some.at = sym c.find_space_or_tab.ensures ∙ c.in-Some.is in
    other-gap bytes c.in-Some.at found c.if-bytes-at-eq32.false ∙ ap is_plain_info c.as_bytes-bytes.ensures.value

pub returns-in-None : goal.returns-in-None
returns-in-None c =
    let bytes = c.as_bytes-bytes.result.now in
    let none : position is_space_or_tab bytes ≡ None = sym c.find_space_or_tab.ensures ∙ c.in-None.is in
    sym (plain-word bytes none) ∙ ap is_plain_info c.as_bytes-bytes.ensures.value

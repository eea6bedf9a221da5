-- How the proof of cm_scan goes. The recursion on lines is given by its cases, one for each kind of block;
-- the crates above use these laws and not the recursion. The lemmas lie in folders as the definitions do:
-- blocks, inlines, and the spans that both read. cuts has where inlines are in their source: items are read and
-- paired with their sources, so that each inline that they make has its own. The laws for the crates above are in specs/laws; a law about
-- one file of definitions is in that file.
pub mod Computing
pub mod InlineComputing
pub mod texts
pub mod blocks
pub mod links
pub mod spans
pub mod inlines
pub mod cuts
pub mod trees

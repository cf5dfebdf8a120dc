-- Heights of reflection: the weights of the sum, `gethp`, its walk, and what is said of the forty reads and of the segments.
pub mod Weights
pub mod Gethp
pub mod GethpWalk
pub mod Reads
pub mod Segments
pub mod SameReads
-- The forty densities of the sum of `gethp`: the nodes, the density of each, and how the code reads them.
pub mod Nodes
pub mod Densities
pub mod ReadsByWalk
-- A guess at a root, and when it is right.
pub mod Guess
-- The integrands of the Gauss rule.
pub mod Integrands
-- The walk of the forty reads.
pub mod Walk
-- The virtual height as an integral worked out segment by segment, and what makes its lowest index safe.
pub mod Exact
pub mod Lowest
-- What `gethp_read` promises where it walks is not what scans and a count come to.
pub mod Apart

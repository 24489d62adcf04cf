mod NoRule
